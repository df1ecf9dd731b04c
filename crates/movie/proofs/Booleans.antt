-- Two tests together, and that a test does not give both answers. Assumes nothing.
use Prim.Native.Nat.{ℕ}
use mathlib.Core.Path.{◌≡◌, refl, sym}
use mathlib.Core.Bool.{Bool, true, false, ◌&&◌}
use native.Mathlib.Omega.{arith}

pub both : (a b : Bool) → a && b ≡ true → (a ≡ true) × (b ≡ true)
both true b q = (refl, q)
both false b q = let z : ◌≡◌ {A = ℕ} 0 1 = cc in absurd (omega arith)

pub not-false : true ≡ false → ⊥
not-false z = let y : ◌≡◌ {A = ℕ} 0 1 = cc in omega arith

pub not-true : false ≡ true → ⊥
not-true z = not-false (sym z)
