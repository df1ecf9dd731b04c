-- How far an integer is from 0. Assumes nothing.
use Rattle.std.specs.Prelude.{ℕ, ℤ, nat_abs}

abbrev pub absolute_of : ℤ → ℕ
absolute_of z = nat_abs z
