-- A duration in microseconds: times a million, divided by the timescale, rounded down. The product has 64 bits (9), and
-- a timescale of 0 is refused as it is in a box (8). Assumes nothing.
use Rattle.std.specs.Prelude.{ℕ, ◌*◌, ◌/◌, eqb, ltb, Result, Ok, Err}
use Rattle.numbers.specs.Field.{when}
use Rattle.numbers.specs.declared.Refusal.TheVariants as refusal
use Rattle.numbers.specs.declared.Refusal.{Refusal}

abbrev pub largest : ℕ
largest = 0xffff_ffff_ffff_ffff

abbrev pub micros_of : ℕ → ℕ → Result ℕ Refusal
micros_of duration timescale =
    when (eqb timescale 0) (Err (refusal.Value 0))
    (when (ltb largest (duration * 1_000_000)) (Err refusal.Overflow) (Ok (duration * 1_000_000 / timescale)))
