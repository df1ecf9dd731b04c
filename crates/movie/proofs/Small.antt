-- Whether there are rows, and how many tracks. Assumes nothing.
use Rattle.std.specs.Prelude.{Option, Some, None}
use Prim.Native.Nat.{ℕ, suc, ◌-◌, min}
use mathlib.Core.Path.{◌≡◌, refl, sym, ap, ◌∙◌}
use mathlib.Core.List.{List}
use mathlib.Core.Bool.{Bool, true, false}
use native.Mathlib.Omega.{arith}
use lib.ListN.{length, take, length-take}
use lib.Dec.{ltb}
use borrow.Author.Tests.{ltb-true, ltb-false}
use Rattle.numbers.specs.Field.{when}
use Rattle.tables.specs.Tables.{listed}
use Rattle.mooftable.specs.Table.{row_at, row_of, rows_of, holds}
use Rattle.mooftable.specs.declared.Moof.{Moof}
use Rattle.movie.specs.Inside.{is_some}

module _ (t : List ℕ) (n : ℕ) where
  rows-by : (k : ℕ) → min n (holds t) ≡ k → is_some (rows_of t n) ≡ is_some (listed (row_at t) k)
  rows-by k e = ap (λ (j : ℕ). is_some (listed (row_at t) j)) e

  pub none-asked : n ≡ 0 → false ≡ is_some (rows_of t n)
  none-asked e = sym (rows-by 0 (omega (arith, e)))

  module _ (r : Option Moof) (e : r ≡ row_of t 0) (more : n ≡ 0 → ⊥) where
    is_row : Option Moof → Bool
    is_row (Some m) = true
    is_row None = false

    by-room : (b : Bool) → ltb 0 (holds t) ≡ b → (is_row (when b (Some (row_at t 0)) None) ≡ is_some (rows_of t n))
    unfolding is_row when
    by-room true h = sym (rows-by (suc (min n (holds t) - 1)) (omega (arith, ltb-true 0 (holds t) h, more)))
    by-room false h = sym (rows-by 0 (omega (arith, ltb-false 0 (holds t) h)))

    told : is_row r ≡ is_some (rows_of t n)
    told = ap is_row e ∙ by-room (ltb 0 (holds t)) refl

    pub is-there : (m : Moof) → r ≡ Some m → true ≡ is_some (rows_of t n)
    unfolding is_row
    is-there m q = ap is_row (sym q) ∙ told

    pub is-missing : r ≡ None → false ≡ is_some (rows_of t n)
    unfolding is_row
    is-missing q = ap is_row (sym q) ∙ told

module _ {A B : Type 0} (l : List A) (m : List B) (count : ℕ) where
  pub same_length : length l ≡ 4 → length m ≡ 4 → length (take count l) ≡ length (take count m)
  same_length h k = omega (arith, length-take count l, length-take count m)

  pub take-length : length l ≡ 4 → min count 4 ≡ length (take count l)
  take-length h = omega (arith, length-take count l)
