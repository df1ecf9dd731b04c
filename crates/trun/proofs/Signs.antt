-- A number of 4 bytes as a signed number of 8: what it is by itself, and in two's complement. Assumes nothing.
use mathlib.Core.Path.{◌≡◌, refl, sym, ap, subst, ◌∙◌}
use Prim.Native.Nat.{ℕ, zero, suc, ◌-◌, ◌*◌, ◌≤◌, ◌<◌}
use native.Mathlib.Nat.{zero-add}
use native.Mathlib.Omega.{arith}
use lib.IntN.{pos, negsuc, ◌-ℤ◌}
use mir.Syntax.{w64}
use mir.Val.{SFits, to_z, of_z}
use mir.Facts.{to_z_pos, to_z-of_z}
use Rattle.numbers.proofs.Chain.{is_lt, not-lt}
use Rattle.signed.specs.Signed.{signed}

-- -1 - k
minus : (k : ℕ) → negsuc 0 -ℤ pos k ≡ negsuc k
minus zero = refl
minus (suc k) = ap (λ n. negsuc (suc n)) (zero-add k)

module _ (n : ℕ) where
  -- any number of 4 bytes is itself in 8
  pub wide : n < 4294967296 → to_z w64 n ≡ pos n
  wide h = to_z_pos w64 (omega (arith, h))

  pub low : n < 2147483648 → to_z w64 n ≡ signed 4 n
  unfolding signed
  low h = is_lt _ _ _ (n * 2) 4294967296 (omega (arith, h)) (to_z_pos w64 (omega (arith, h)))

  module _ (h : 2147483648 ≤ n) (g : n < 4294967296) where
    abbrev k : ℕ
    k = 4294967295 - n

    flipped : negsuc 0 -ℤ to_z w64 k ≡ negsuc k
    flipped = ap (λ z. negsuc 0 -ℤ z) (to_z_pos w64 {n = k} (omega (arith, h))) ∙ minus k

    pub high_fits : SFits w64 (negsuc 0 -ℤ to_z w64 k)
    high_fits = subst (SFits w64) (sym flipped) (record { sfits = omega (arith, h) })

    pub high : to_z w64 (of_z w64 (negsuc 0 -ℤ to_z w64 k)) ≡ signed 4 n
    unfolding signed
    high = not-lt _ _ _ (n * 2) 4294967296 (omega (arith, h)) (to_z-of_z high_fits ∙ flipped)
