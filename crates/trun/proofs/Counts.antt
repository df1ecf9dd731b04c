-- How many values the samples of a run have. Assumes nothing.
use Rattle.std.specs.Prelude.{Option}
use mathlib.Core.Path.{◌≡◌, refl, ap, ◌∙◌}
use mathlib.Core.List.{List}
use mathlib.Core.Bool.{Bool, true, false}
use Prim.Native.Nat.{ℕ, ◌*◌, ◌≤◌}
use native.Mathlib.Nat.{mul-le-mul_left}
use native.Mathlib.Omega.{arith}
use Rattle.numbers.specs.Field.{when}
use Rattle.layout.specs.Rule.{is_set}
use Rattle.layout.specs.Table.{cut_of}
use Rattle.trun.specs.Trun.{present, per_sample, cells_of, duration_bit, size_bit, flags_bit, composition_bit}

-- of a flag's value there is one, or none
pub one-or-none : (n : ℕ) (t : Bool) → n ≡ when t 1 0 → n ≤ 1
unfolding when
one-or-none n true e = omega (arith, e)
one-or-none n false e = omega (arith, e)

per-sample-most : (flags : ℕ) → per_sample flags ≤ 4
per-sample-most flags = omega (arith, most duration_bit, most size_bit, most flags_bit, most composition_bit)
  where
    most : (bit : ℕ) → present flags bit ≤ 1
    most bit = one-or-none (present flags bit) (is_set flags bit) refl

pub cells-most : (flags n : ℕ) → cells_of flags n ≤ n * 4
cells-most flags n = mul-le-mul_left n (per-sample-most flags)

-- a table of as many fields as was computed
pub by-cells : (n m w : ℕ) (b : List ℕ) (at : ℕ) (c : Option ℕ) → c ≡ cut_of n w b at → n ≡ m → c ≡ cut_of m w b at
by-cells n m w b at c e q = e ∙ ap (λ k. cut_of k w b at) q
