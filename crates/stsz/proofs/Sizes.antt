-- How many sizes are listed, and what hangs on it. Assumes nothing.
use Rattle.std.specs.Prelude.{Option}
use mathlib.Core.Path.{◌≡◌, ap, ◌∙◌}
use mathlib.Core.List.{List}
use mathlib.Core.Bool.{Bool, true, false}
use Prim.Native.Nat.{ℕ, ◌≤◌}
use native.Mathlib.Omega.{arith}
use lib.Dec.{eqb}
use Rattle.numbers.specs.Field.{when}
use Rattle.layout.specs.Table.{cut_of}
use Rattle.stsz.specs.Stsz.{listed_of}

pub listed-most : (common count : ℕ) → listed_of common count ≤ count
unfolding when
listed-most common count = by (eqb common 0)
  where
    by : (t : Bool) → when t count 0 ≤ count
    by true = omega arith
    by false = omega arith

pub by_count : (n m w : ℕ) (b : List ℕ) (at : ℕ) (c : Option ℕ) → c ≡ cut_of n w b at → n ≡ m → c ≡ cut_of m w b at
by_count n m w b at c e q = e ∙ ap (λ k. cut_of k w b at) q
