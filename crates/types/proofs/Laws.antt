-- The functions of this crate undo each other. Assumes nothing.
use mathlib.Core.Path.{◌≡◌, sym, ap, ◌∙◌}
use mathlib.Core.List.{List}
use Prim.Native.Nat.{ℕ, suc, ◌+◌, ◌*◌, ◌^◌, ◌<◌}
use native.Mathlib.Nat.{mul-div_cancel}
use native.Mathlib.Omega.{arith}
use lib.ListN.{length}
use lib.IntN.{ℤ, pos, negsuc, neg_ℤ}
use Rattle.numbers.specs.Number.{be, bytes}
use Rattle.numbers.proofs.Laws.{Bytes, of-bytes, to-bytes, pow_pos}
use Rattle.types.specs.Fixed.{raw_of, whole_of, signed_raw, signed_whole}

-- letters, their number, and the letters again
pub letters-back : (letters : List ℕ) → Bytes letters → length letters ≡ 4 → bytes 4 (be 4 letters 0) ≡ letters
letters-back letters h e = to-bytes 4 letters h e

-- a number, its letters, and the number again
pub number-back : (n : ℕ) → n < 2 ^ 32 → be 4 (bytes 4 n) 0 ≡ n
number-back n h = of-bytes 4 n h

-- the whole part of a whole number, with w bytes after the point
pub whole_back : (w n : ℕ) → whole_of w (raw_of w n) ≡ n
whole_back w n = mul-div_cancel n (pow_pos w)

-- the same of an integer in signed 8.8
pub signed_back : (z : ℤ) → signed_whole 1 (signed_raw 1 z) ≡ z
signed_back (pos n) = ap pos (whole_back 1 n)
signed_back (negsuc n) =
    let e : suc n * 256 ≡ suc (n * 256 + 255) = omega arith in
    ap (λ m. signed_whole 1 (neg_ℤ (pos m))) e ∙ ap (λ m. neg_ℤ (pos (whole_of 1 m))) (sym e) ∙ ap (λ m. neg_ℤ (pos m)) (whole_back 1 (suc n))
