-- The 64 bits of a signed number: what its two's complement needs to be computed. Assumes nothing.
use Prim.Native.Nat.{ℕ, suc, ◌-◌, ◌^◌, ◌≤◌, ◌<◌}
use mathlib.Core.Path.{◌≡◌, refl, sym, ap, subst, ◌∙◌}
use mathlib.Core.Bool.{Bool, true, false, cond}
use native.Mathlib.Omega.{arith}
use lib.Dec.{T}
use borrow.Author.Tests.{ltb-true, le-ltb}
use lib.IntN.{ℤ, pos, negsuc, nat_abs, ◌-ℤ◌}
use lib.Signed.{mag, lt_z, non_neg}
use mir.Syntax.{w64}
use mir.Val.{SFits, Fits, to_z, of_z}
use mir.Facts.{to_z-of_z}
use Rattle.samples.specs.Records.{bits_of}

-- -1 - z, of a negative z
flip : (n : ℕ) → negsuc 0 -ℤ negsuc n ≡ pos n
flip n =
    let e : suc n - 1 ≡ n = omega arith in
    ap (λ (b : Bool). cond b (negsuc (1 - suc (suc n))) (pos (suc n - 1))) (le-ltb (suc n) 1 (omega arith)) ∙ ap pos e

-- what is needed of it, and what it is
record Flipped (z d : ℤ) : Type 0 where
  pub fit : SFits w64 d
  pub not-below : T (non_neg d)
  pub small : nat_abs d < 2 ^ 63
  pub is : 2 ^ 64 - 1 - nat_abs d ≡ bits_of z

flipped : (z : ℤ) → lt_z z (pos 0) ≡ true → mag z < 2 ^ 63 → Flipped z (negsuc 0 -ℤ z)
flipped (pos n) e h = absurd (omega (arith, ltb-true n 0 e))
flipped (negsuc n) e h = rw (flip n) (record { fit = record { sfits = h }; not-below = tt; small = h; is = refl })

record Kept (z : ℤ) : Type 0 where
  pub not-below : T (non_neg z)
  pub small : nat_abs z < 2 ^ 64
  pub is : nat_abs z ≡ bits_of z

kept : (z : ℤ) → lt_z z (pos 0) ≡ false → mag z < 2 ^ 63 → Kept z
kept (pos n) e h = record { not-below = tt; small = omega arith; is = refl }
kept (negsuc n) e h = let y : ◌≡◌ {A = ℕ} 0 1 = cc in absurd (omega arith)

module _ (z : ℤ) (h : SFits w64 z) where
  round : to_z w64 (of_z w64 z) ≡ z
  round = to_z-of_z h

  module _ (e : lt_z (to_z w64 (of_z w64 z)) (pos 0) ≡ true) where
    all : Flipped z (negsuc 0 -ℤ z)
    all = flipped z (ap (λ (x : ℤ). lt_z x (pos 0)) (sym round) ∙ e) h.sfits

    pub below-fits : SFits w64 (negsuc 0 -ℤ to_z w64 (of_z w64 z))
    below-fits = subst (λ (x : ℤ). SFits w64 (negsuc 0 -ℤ x)) (sym round) all.fit

    back : to_z w64 (of_z w64 (negsuc 0 -ℤ to_z w64 (of_z w64 z))) ≡ negsuc 0 -ℤ z
    back = to_z-of_z below-fits ∙ ap (λ (x : ℤ). negsuc 0 -ℤ x) round

    pub below-cast : T (non_neg (to_z w64 (of_z w64 (negsuc 0 -ℤ to_z w64 (of_z w64 z))))) × Fits w64 (nat_abs (to_z w64 (of_z w64 (negsuc 0 -ℤ to_z w64 (of_z w64 z)))))
    below-cast = rw back (all.not-below, record { fits = omega (arith, all.small) })

    pub below-small : nat_abs (to_z w64 (of_z w64 (negsuc 0 -ℤ to_z w64 (of_z w64 z)))) ≤ 2 ^ 64 - 1
    below-small = rw back (omega (arith, all.small))

    pub below-is : 2 ^ 64 - 1 - nat_abs (to_z w64 (of_z w64 (negsuc 0 -ℤ to_z w64 (of_z w64 z)))) ≡ bits_of z
    below-is = rw back all.is

  module _ (e : lt_z (to_z w64 (of_z w64 z)) (pos 0) ≡ false) where
    same : Kept z
    same = kept z (ap (λ (x : ℤ). lt_z x (pos 0)) (sym round) ∙ e) h.sfits

    pub above-cast : T (non_neg (to_z w64 (of_z w64 z))) × Fits w64 (nat_abs (to_z w64 (of_z w64 z)))
    above-cast = rw round (same.not-below, record { fits = same.small })

    pub above-is : nat_abs (to_z w64 (of_z w64 z)) ≡ bits_of z
    above-is = rw round same.is
