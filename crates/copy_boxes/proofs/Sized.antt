-- The length of a repeat, at any count: antt compares the two lengths by their arguments and unfolds neither.
use Prim.Native.Nat.{ℕ}
use mathlib.Core.Path.{◌≡◌, sym}
use lib.ListN.{length, replicate, length-replicate}

pub sized : (n v : ℕ) → n ≡ length (replicate n v)
sized n v = sym (length-replicate n v)
