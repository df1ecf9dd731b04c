-- Runs in a lent table of numbers: a row of twelve numbers for each, one row behind the other. Assumes nothing.
use Rattle.std.specs.Prelude.{ℕ, ◌+◌, ◌*◌, ◌/◌, ◌%◌, ◌^◌, min, List, [], ◌∷◌, length, get_or, ltb, Option, Ok, Err, Some, None}
use Rattle.std.proofs.lemmas.List.Edits.{sets}
use Rattle.numbers.specs.Field.{when}
use Rattle.numbers.specs.declared.Refusal.TheVariants as refusal
use Rattle.put.specs.Put.{Wrote, wrote}
use Rattle.tables.specs.Tables.{listed}
use Rattle.runs.specs.declared.Run.{Run}

abbrev pub row_length : ℕ
row_length = 12

-- the numbers of a run
abbrev pub numbers_of : Run → List ℕ
numbers_of r =
    r.track ∷ r.start ∷ r.time ∷ r.at ∷ r.trun.version ∷ r.trun.flags ∷ r.trun.sample_count ∷ r.trun.data_offset ∷ r.trun.first_sample_flags
    ∷ r.duration ∷ r.size ∷ r.flags ∷ []

-- how many rows a table holds whole
abbrev pub holds : List ℕ → ℕ
holds t = length t / row_length

-- number k of row i, and its lower 32 bits
abbrev pub cell : List ℕ → ℕ → ℕ → ℕ
cell t i k = get_or t (i * row_length + k) 0

abbrev pub low : List ℕ → ℕ → ℕ → ℕ
low t i k = cell t i k % 2 ^ 32

-- the run of row i. A number that a run has in 32 bits, or in 8, is taken by its lower ones: so every table means one
-- list of runs
unfoldable pub row_at : List ℕ → ℕ → Run
row_at t i = record {
  track = low t i 0;
  start = cell t i 1;
  time = cell t i 2;
  at = cell t i 3;
  trun = record { version = cell t i 4 % 2 ^ 8; flags = low t i 5; sample_count = low t i 6; data_offset = low t i 7; first_sample_flags = low t i 8 };
  duration = low t i 9;
  size = low t i 10;
  flags = low t i 11;
}

abbrev pub row_of : List ℕ → ℕ → Option Run
row_of t i = when (ltb i (holds t)) (Some (row_at t i)) None

-- the first n rows, or as many as the table holds
abbrev pub rows_of : List ℕ → ℕ → List Run
rows_of t n = listed (row_at t) (min n (holds t))

-- r as row i, and the number of the row after it; where there is no room, the number of rows needed, if 64 bits hold it,
-- and the table stays
abbrev pub store_of : Run → ℕ → List ℕ → Wrote
store_of r i t =
    when (ltb i (holds t)) (wrote (Ok (i + 1)) (sets t (i * row_length) (numbers_of r)))
    (when (ltb (i + 1) (2 ^ 64)) (wrote (Err (refusal.TooSmall (i + 1))) t) (wrote (Err refusal.Overflow) t))
