-- The length of a repeat, at any count: antt compares the two lengths by their arguments and unfolds neither.
use Rattle.std.proofs.Common.{◌≡◌, ℕ, length, replicate, sym}
use lib.ListN.{length-replicate}

pub sized : (n v : ℕ) → n ≡ length (replicate n v)
sized n v = sym (length-replicate n v)
