-- What hangs on the version of an edit list: how large its edits are, and how they are judged. Assumes nothing.
use Rattle.std.specs.Prelude.{Result}
use mathlib.Core.Path.{◌≡◌, ap, ◌∙◌}
use mathlib.Core.List.{List}
use mathlib.Core.Bool.{Bool, true, false}
use Prim.Native.Nat.{ℕ, ◌+◌, ◌*◌, ◌≤◌, ◌<◌}
use native.Mathlib.Omega.{arith}
use lib.Dec.{eqb}
use Rattle.numbers.specs.Field.{when}
use Rattle.rows.specs.Rows.{entries_of}
use Rattle.rows.specs.declared.Cell.{Cell}
use Rattle.elst.specs.Elst.{width, edit}
use Rattle.numbers.specs.declared.Refusal.{Refusal}

pub width-most : (v : ℕ) → width v ≤ 8
unfolding when
width-most v = by (eqb v 1)
  where
    by : (t : Bool) → when t 8 4 ≤ 8
    by true = omega arith
    by false = omega arith

pub edits-most : (n v : ℕ) → n < 4294967296 → n * edit v ≤ 85899345900
unfolding when
edits-most n v h = by (eqb v 1)
  where
    by : (t : Bool) → n * (when t 8 4 * 2 + 4) ≤ 85899345900
    by true = omega (arith, h)
    by false = omega (arith, h)

pub by-cells : (n : ℕ) (cs ds : List Cell) (b : List ℕ) (at : ℕ) (j : Result (Unit {0}) Refusal) → j ≡ entries_of n cs b at 0 → cs ≡ ds → j ≡ entries_of n ds b at 0
by-cells n cs ds b at j e q = e ∙ ap (λ xs. entries_of n xs b at 0) q
