-- A box's bytes in the bytes of a file: as many from a position on as there are, up to a size. Assumes nothing.
use Rattle.std.specs.Prelude.{ℕ, List, take, drop}

abbrev pub part_of : ℕ → ℕ → List ℕ → List ℕ
part_of start size s = take size (drop start s)
