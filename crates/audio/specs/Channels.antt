-- The channel configurations that are known: 1 to 7, from mono to 7.1 (ISO/IEC 14496-3, table 1.19). 0 says that the
-- stream tells it elsewhere; it and the others are 8 (A63). Assumes nothing.
use Rattle.std.specs.Prelude.{ℕ, eqb, ltb, Result, Ok, Err}
use Rattle.numbers.specs.Field.{when}
use Rattle.numbers.specs.declared.Refusal.TheVariants as refusal
use Rattle.numbers.specs.declared.Refusal.{Refusal}

abbrev pub configuration : ℕ → Result ℕ Refusal
configuration n = when (eqb n 0) (Err (refusal.Value 0)) (when (ltb 7 n) (Err (refusal.Value 0)) (Ok n))
