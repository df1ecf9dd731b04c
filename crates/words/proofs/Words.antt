-- The laws of numbers in the file: the position that is looked at, and the signed number that 32 bits stand for.
-- Assumes nothing.
use Rattle.std.specs.Prelude.{Result, Ok, Err}
use Rattle.std.specs.Result.{result_unwrap_or}
use mathlib.Core.Path.{◌≡◌, refl, sym, ap, ap₂, ◌∙◌}
use mathlib.Core.List.{List}
use mathlib.Core.Bool.{cond}
use Prim.Native.Nat.{ℕ, zero, suc, ◌+◌, ◌-◌, ◌*◌, ◌^◌, ◌≤◌, ◌<◌}
use native.Mathlib.Nat.{add-zero, sub-zero}
use native.Mathlib.Omega.{arith}
use lib.ListN.{length, take, drop, length-drop}
use lib.Seq.{take_all, get_or-drop}
use lib.IntN.{ℤ, pos, negsuc, sub_ℕ, ◌-ℤ◌}
use mir.Syntax.{w64}
use mir.Val.{SFits, to_z, of_z}
use mir.Facts.{to_z_pos, to_z-of_z}
use borrow.Author.Tests.{lt-ltb, le-ltb}
use Rattle.numbers.specs.Number.{be}
use Rattle.numbers.specs.Field.{field, or_zero}
use Rattle.numbers.specs.declared.Refusal.{Refusal}
use Rattle.numbers.proofs.Chain.{by-result, there, lacks, whole, ends, is_lt, not-lt}
use Rattle.signed.specs.Signed.{signed}

-- a number is the same in the part of the file from `at` on
pub be-drop : (w s : ℕ) (b : List ℕ) (at : ℕ) → be w (drop s b) at ≡ be w b (s + at)
unfolding be
be-drop zero s b at = refl
be-drop (suc w) s b at =
    ap₂ (λ (x y : ℕ). x * 256 ^ w + y) (get_or-drop s b at 0) (be-drop w s b (suc at) ∙ ap (be w b) (let e : s + suc at ≡ suc (s + at) = omega arith in e))

module _ (w : ℕ) (f : List ℕ) (at past : ℕ) where
  pub word-past : 0 < w → length f < at → 0 ≡ or_zero w f (at + past)
  word-past h k = ends w f (at + past) (λ q. 0) (λ k. k) 0 (omega arith) refl

  module _ (u : Result ℕ Refusal) (p : List ℕ) (h : at ≤ length f) (ep : p ≡ take (length f - at) (drop at f))
      (e : u ≡ field Err w p past Ok) where
    part : p ≡ drop at f
    part = ep ∙ take_all (length f - at) (drop at f) (omega (arith, length-drop at f))

    long : length p ≡ length f - at
    long = ap length part ∙ length-drop at f

    pub word-is : (n : ℕ) → u ≡ Ok n → n ≡ or_zero w f (at + past)
    word-is n g =
        let t = there by-result w p past u e n g in
        whole w f (at + past) (λ q. 0) (λ k. k) n n (omega (arith, t.0, long)) (t.1 ∙ ap (λ (l : List ℕ). be w l past) part ∙ be-drop w at f past) refl

    pub word-not : (q : Refusal) → u ≡ Err q → 0 ≡ or_zero w f (at + past)
    word-not q g = ends w f (at + past) (λ q. 0) (λ k. k) 0 (omega (arith, lacks by-result w p past u e q g, long)) refl

    word-by : (v : Result ℕ Refusal) → u ≡ v → result_unwrap_or v 0 ≡ or_zero w f (at + past)
    word-by (Ok n) g = word-is n g
    word-by (Err q) g = word-not q g

    pub word-or : (n : ℕ) → n ≡ result_unwrap_or u 0 → n ≡ or_zero w f (at + past)
    word-or n g = g ∙ word-by u refl

-- SIGNED

minus : (a b : ℕ) → pos a -ℤ pos b ≡ sub_ℕ a b
minus a zero = ap pos (add-zero a ∙ sym (sub-zero a)) ∙ sym (ap (λ t. cond t (negsuc (0 - suc a)) (pos (a - 0))) (le-ltb a 0 (omega arith)))
minus a (suc b) = refl

module _ (x : ℕ) where
  pub signed_low : x < 2147483648 → to_z w64 x ≡ signed 4 x
  unfolding signed
  signed_low h =
      let b : x < 2 ^ 63 = omega arith in
      is_lt (pos x) (negsuc (256 ^ 4 - 1 - x)) (to_z w64 x) (x * 2) (256 ^ 4) (omega arith) (to_z_pos w64 b)

  module _ (h : 2147483648 ≤ x) (k : x < 4294967296) where
    read : to_z w64 x -ℤ pos 4294967296 ≡ negsuc (4294967296 - suc x)
    read =
        let b : x < 2 ^ 63 = omega arith in
        ap (λ (z : ℤ). z -ℤ pos 4294967296) (to_z_pos w64 b) ∙ minus x 4294967296
        ∙ ap (λ t. cond t (negsuc (4294967296 - suc x)) (pos (x - 4294967296))) (lt-ltb x 4294967296 k)

    pub signed-fits : SFits w64 (to_z w64 x -ℤ pos 4294967296)
    signed-fits = rw read (record { sfits = omega arith })

    pub signed_high : to_z w64 (of_z w64 (to_z w64 x -ℤ pos 4294967296)) ≡ signed 4 x
    unfolding signed
    signed_high =
        let e : 4294967296 - suc x ≡ 256 ^ 4 - 1 - x = omega arith in
        not-lt (pos x) (negsuc (256 ^ 4 - 1 - x)) (to_z w64 (of_z w64 (to_z w64 x -ℤ pos 4294967296))) (x * 2) (256 ^ 4) (omega arith) (to_z-of_z signed-fits ∙ read ∙ ap negsuc e)
