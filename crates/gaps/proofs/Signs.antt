-- A difference of two numbers as a signed number of 64 bits: one law for each return. Assumes nothing.
use Rattle.std.specs.Prelude.{Option, Some, None}
use mathlib.Core.Path.{◌≡◌, refl, sym, ap, subst, ◌∙◌}
use mathlib.Core.Bool.{Bool, true, false, cond, ◌&&◌}
use Prim.Native.Nat.{ℕ, zero, suc, ◌+◌, ◌-◌, ◌^◌, ◌≤◌, ◌<◌}
use native.Mathlib.Nat.{zero-add}
use native.Mathlib.Omega.{arith}
use lib.Dec.{ltb}
use lib.IntN.{ℤ, pos, negsuc, sub_ℕ, ◌-ℤ◌}
use mir.Syntax.{w64}
use mir.Val.{SFits, to_z, of_z}
use mir.Facts.{to_z_pos, to_z-of_z}
use borrow.Author.Tests.{lt-ltb, le-ltb}
use Rattle.numbers.proofs.Chain.{by-true, by-false, is_lt, not-lt}
use Rattle.gaps.specs.Gaps.{signed64, gap_of, behind}

-- -1 - k
minus : (k : ℕ) → negsuc 0 -ℤ pos k ≡ negsuc k
minus zero = refl
minus (suc k) = ap (λ n. negsuc (suc n)) (zero-add k)

-- SO MANY BELOW 0

pub behind-none : (n : ℕ) → n ≡ 0 → Some (pos 0) ≡ behind n
behind-none n e = sym (ap behind e)

pub behind-far : (n : ℕ) → 2 ^ 63 < n → None ≡ behind n
behind-far zero h = absurd (omega arith)
behind-far (suc k) h = not-lt _ _ None k (2 ^ 63) (omega arith) refl

module _ (n : ℕ) (h : n ≡ 0 → ⊥) (g : n ≤ 2 ^ 63) where
  flipped : negsuc 0 -ℤ to_z w64 (n - 1) ≡ negsuc (n - 1)
  flipped = ap (λ z. negsuc 0 -ℤ z) (to_z_pos w64 {n = n - 1} (omega (arith, h, g))) ∙ minus (n - 1)

  pub behind-fits : SFits w64 (negsuc 0 -ℤ to_z w64 (n - 1))
  behind-fits = subst (SFits w64) (sym flipped) (record { sfits = omega (arith, h, g) })

  one_more : (n : ℕ) → (n ≡ 0 → ⊥) → n ≤ 2 ^ 63 → Some (negsuc (n - 1)) ≡ behind n
  one_more zero h g = absurd (h refl)
  one_more (suc k) h g = let e : suc k - 1 ≡ k = omega arith in is_lt _ _ (Some (negsuc (suc k - 1))) k (2 ^ 63) (omega arith) (ap (λ (j : ℕ). Some (negsuc j)) e)

  pub behind-is : Some (to_z w64 (of_z w64 (negsuc 0 -ℤ to_z w64 (n - 1)))) ≡ behind n
  behind-is = ap Some (to_z-of_z behind-fits ∙ flipped) ∙ one_more n h g

-- THE GAP

and-false : (x : Bool) → (x && false) ≡ false
and-false true = refl
and-false false = refl

module _ (b l t : ℕ) where
  pub late-before : 2 ^ 63 ≤ b → None ≡ gap_of b l t
  unfolding gap_of
  late-before h = by-false _ _ None (ltb b (2 ^ 63) && ltb t (2 ^ 63)) (ap (λ (x : Bool). x && ltb t (2 ^ 63)) (le-ltb b (2 ^ 63) h)) refl

  pub late-time : 2 ^ 63 ≤ t → None ≡ gap_of b l t
  unfolding gap_of
  late-time h =
      by-false _ _ None (ltb b (2 ^ 63) && ltb t (2 ^ 63)) (ap (λ (x : Bool). ltb b (2 ^ 63) && x) (le-ltb t (2 ^ 63) h) ∙ and-false (ltb b (2 ^ 63))) refl

  module _ (hb : b < 2 ^ 63) (ht : t < 2 ^ 63) where
    times : (x : Option ℤ) → x ≡ signed64 (sub_ℕ t (b + l)) → x ≡ gap_of b l t
    unfolding gap_of
    times x e =
        by-true _ _ x (ltb b (2 ^ 63) && ltb t (2 ^ 63)) (ap (λ (y : Bool). y && ltb t (2 ^ 63)) (lt-ltb b (2 ^ 63) hb) ∙ lt-ltb t (2 ^ 63) ht) e

    below : t < b + l → sub_ℕ t (b + l) ≡ negsuc (b + l - suc t)
    below h = ap (λ (x : Bool). cond x (negsuc (b + l - suc t)) (pos (t - (b + l)))) (lt-ltb t (b + l) h)

    pub far : 2 ^ 64 ≤ b + l → None ≡ gap_of b l t
    far h =
        times None (not-lt (Some (negsuc (b + l - suc t))) None None (b + l - suc t) (2 ^ 63) (omega (arith, ht, h)) refl ∙ ap signed64 (sym (below (omega (arith, ht, h)))))

    pub ahead : b + l ≤ t → Some (to_z w64 (t - (b + l))) ≡ gap_of b l t
    ahead h =
        let e : sub_ℕ t (b + l) ≡ pos (t - (b + l)) = ap (λ (x : Bool). cond x (negsuc (b + l - suc t)) (pos (t - (b + l)))) (le-ltb t (b + l) h) in
        let w : to_z w64 (t - (b + l)) ≡ pos (t - (b + l)) = to_z_pos w64 {n = t - (b + l)} (omega (arith, ht)) in
        times (Some (to_z w64 (t - (b + l))))
        (is_lt (Some (pos (t - (b + l)))) None (Some (to_z w64 (t - (b + l)))) (t - (b + l)) (2 ^ 63) (omega (arith, ht)) (ap Some w) ∙ ap signed64 (sym e))

    pub back : t < b + l → (r : Option ℤ) → r ≡ behind (b + l - t) → r ≡ gap_of b l t
    back h r q =
        let e : b + l - t ≡ suc (b + l - suc t) = omega (arith, h) in
        times r (q ∙ ap behind e ∙ ap signed64 (sym (below h)))
