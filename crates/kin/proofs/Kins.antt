-- Small steps of what a box has to do with others. Assumes nothing.
use mathlib.Core.Path.{◌≡◌, ap₂}
use mathlib.Core.Bool.{Bool, true, false, ◌&&◌}
use Prim.Native.Nat.{ℕ, ◌≤◌}
use native.Mathlib.Omega.{arith}
use lib.Dec.{eqb}
use Rattle.kin.specs.Kin.{one}

pub by-forms : (t : Bool) (x y p q : ℕ) → x ≡ p → y ≡ q → ◌&&◌ t (eqb x y) ≡ ◌&&◌ t (eqb p q)
by-forms t x y p q e f = ap₂ (λ (x y : ℕ). ◌&&◌ t (eqb x y)) e f

pub one-most : (t : Bool) → one t ≤ 1
one-most true = omega arith
one-most false = omega arith
