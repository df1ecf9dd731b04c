-- Two's complement, over the width: what the readers compute, and that the two readings undo each other. Assumes nothing.
use mathlib.Core.Path.{◌≡◌, refl, sym, ap, subst, ◌∙◌}
use Prim.Native.Nat.{ℕ, zero, suc, ◌+◌, ◌-◌, ◌*◌, ◌^◌, ◌≤◌, ◌<◌}
use native.Mathlib.Nat.{zero-add, pow-suc}
use native.Mathlib.Omega.{arith}
use lib.Dec.{ltb}
use mathlib.Core.Bool.{Bool, true, false}
use lib.IntN.{ℤ, pos, negsuc}
use lib.Signed.{mag}
use mathlib.Core.Logic.{⊎_elim}
use mir.Syntax.{Width, w16, w32, w64}
use mir.Val.{bits, hbits, to_z}
use Rattle.std.specs.Int.{cast_signed}
use Rattle.std.proofs.lemmas.Int.{to_z_pos}
use Rattle.std.proofs.Math.Facts.{to_z-neg}
use Rattle.std.proofs.lemmas.Bool.{cases_lt}
use borrow.Author.Tests.{lt-ltb, le-ltb}
use Rattle.numbers.specs.Field.{when}
use Rattle.signed.specs.Signed.{signed, unsigned}
use Rattle.numbers.proofs.Chain.{is_lt, not-lt}

-- what w, the width of b bytes, makes of their bits
module _ (w : Width) (b : ℕ) (half : 2 ^ hbits w * 2 ≡ 256 ^ b) (whole : 2 ^ bits w ≡ 256 ^ b) (n : ℕ) (g : n < 256 ^ b) where
  low : n < 2 ^ hbits w → to_z w n ≡ signed b n
  unfolding signed
  low h = is_lt _ _ _ (n * 2) (256 ^ b) (omega arith) (to_z_pos w n h)

  high : 2 ^ hbits w ≤ n → to_z w n ≡ signed b n
  unfolding signed
  high h =
      let k = 256 ^ b - 1 - n in
      let e : n ≡ 2 ^ bits w - suc k = omega arith in
      not-lt _ _ _ (n * 2) (256 ^ b) (omega arith) (ap (to_z w) e ∙ to_z-neg w k (omega arith))

  pub cast : to_z w n ≡ signed b n
  cast = ⊎_elim low high (cases_lt n (2 ^ hbits w))

pub cast16 : (n : ℕ) → n < 2 ^ 16 → cast_signed w16 n ≡ signed 2 n
cast16 n h = cast w16 2 refl refl n h

pub cast32 : (n : ℕ) → n < 2 ^ 32 → cast_signed w32 n ≡ signed 4 n
cast32 n h = cast w32 4 refl refl n h

pub cast64 : (n : ℕ) → n < 2 ^ 64 → cast_signed w64 n ≡ signed 8 n
cast64 n h = cast w64 8 refl refl n h

-- a number that fits stands for one integer, and an integer in the range has one number
pub unsigned_signed : (b n : ℕ) → n < 256 ^ b → unsigned b (signed b n) ≡ n
unfolding signed when
unsigned_signed b n h = by (ltb (n * 2) (256 ^ b))
  where
    by : (t : Bool) → unsigned b (when t (pos n) (negsuc (256 ^ b - 1 - n))) ≡ n
    by true = refl
    by false = omega arith

pub signed-unsigned : (b : ℕ) (z : ℤ) → mag z * 2 < 256 ^ suc b → signed (suc b) (unsigned (suc b) z) ≡ z
unfolding signed
signed-unsigned b (pos n) h = sym (is_lt _ _ _ (n * 2) (256 ^ suc b) h refl)
signed-unsigned b (negsuc n) h =
    let even : 256 ^ suc b ≡ 256 ^ b * 256 = pow-suc 256 b in
    let back : 256 ^ suc b - 1 - (256 ^ suc b - 1 - n) ≡ n = omega arith in
    sym (not-lt _ _ _ ((256 ^ suc b - 1 - n) * 2) (256 ^ suc b) (omega arith) (ap negsuc (sym back)))
