-- The rows of a table from row i on, by what `row` answers there. Assumes nothing.
use Rattle.std.specs.Prelude.{Option, Some, None}
use Prim.Native.Nat.{ℕ, ◌+◌, ◌≤◌, ◌<◌, min}
use mathlib.Core.Path.{◌≡◌, sym, ap, ◌∙◌}
use mathlib.Core.List.{List, [], ◌∷◌}
use native.Mathlib.Omega.{arith}
use lib.ListN.{drop}
use Rattle.tables.proofs.Lists.{list-cons, list-nil}
use Rattle.runs.specs.declared.Run.{Run}
use Rattle.runtable.specs.Table.{row_at, row_of, rows_of, holds}
use Rattle.fragments.proofs.Cases.{row_is, row-not}

module _ (tb : List ℕ) (n i : ℕ) where
  pub rows-past : n ≤ i → drop i (rows_of tb n) ≡ []
  rows-past h = list-nil (row_at tb) (min n (holds tb)) i (omega arith)

  module _ (q : Option Run) (e : q ≡ row_of tb i) where
    pub row-past : q ≡ None → drop i (rows_of tb n) ≡ []
    row-past h = list-nil (row_at tb) (min n (holds tb)) i (omega (arith, row-not tb i q e h))

    pub row_here : i < n → (r : Run) → q ≡ Some r → drop i (rows_of tb n) ≡ r ∷ drop (i + 1) (rows_of tb n)
    row_here h r g =
        let w = row_is tb i q e r g in
        list-cons (row_at tb) (min n (holds tb)) i (omega (arith, w.0)) ∙ ap (λ (x : Run). x ∷ drop (i + 1) (rows_of tb n)) (sym w.1)
