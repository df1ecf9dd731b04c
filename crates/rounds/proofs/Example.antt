-- The bytes of a full box, for worked examples. Assumes nothing.
use mathlib.Core.List.{List, ◌++◌}
use Prim.Native.Nat.{ℕ, ◌+◌}
use lib.ListN.{length}
use Rattle.numbers.specs.Number.{bytes}

abbrev pub box : ℕ → ℕ → ℕ → List ℕ → List ℕ
box kind version flags body = bytes 4 (12 + length body) ++ bytes 4 kind ++ bytes 1 version ++ bytes 3 flags ++ body
