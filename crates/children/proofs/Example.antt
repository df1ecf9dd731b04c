-- The bytes of a box without fields, for worked examples. Assumes nothing.
use mathlib.Core.List.{List, ◌++◌}
use Prim.Native.Nat.{ℕ, ◌+◌}
use lib.ListN.{length}
use Rattle.numbers.specs.Number.{bytes}

abbrev pub of : ℕ → List ℕ → List ℕ
of kind body = bytes 4 (8 + length body) ++ bytes 4 kind ++ body
