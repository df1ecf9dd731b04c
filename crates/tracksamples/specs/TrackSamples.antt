-- The samples of a track, by its tables or, in a fragmented file, by its runs (ISO/IEC 14496-12, 8.6 to 8.8): one of them
-- as a record, how many there are, and the bytes of all. Assumes nothing.
use Rattle.std.specs.Prelude.{ℕ, zero, suc, ◌^◌, List, [], ◌∷◌, Bool, length, drop, leb, ltb, Result, Option, Ok, Err, Some, None}
use Rattle.numbers.specs.Field.{when}
use Rattle.numbers.specs.declared.Refusal.TheVariants as refusal
use Rattle.samples.specs.Lists.{bytes_of}
use Rattle.samples.specs.Records.{Output, output, record-length, put_of, list_of}
use Rattle.samples.specs.declared.Sample.{Sample}
use Rattle.samples.specs.declared.Located.{Located}
use Rattle.runs.specs.declared.Run.{Run}
use Rattle.movie.specs.Movie.{samples_by}
use Rattle.tracksamples.specs.declared.Source.{Source}
use Rattle.numbers.specs.declared.Refusal.{Refusal}

abbrev pub samples_from : List ℕ → Source → List Run → List Sample
samples_from f s rs = samples_by s.fragmented f s.tables rs s.number

-- the first of the samples from number k on as a list of its own: 11 with that number where there is none
abbrev pub alone : ℕ → List Sample → List ℕ → Output
alone k [] o = output (Err (refusal.NoSample k)) o
alone k (s ∷ l) o = list_of (s ∷ []) o

-- the sample of that number, counted from 1 (A14)
unfoldable pub one_of : List Sample → ℕ → List ℕ → Output
one_of l zero o = output (Err (refusal.NoSample 0)) o
one_of l (suc n) o = alone (suc n) (drop n l) o

-- how many there are, below the first of these, and the bytes of all, below the second; else 9 (A13)
abbrev pub count_bound : ℕ
count_bound = 2 ^ 32

abbrev pub total_bound : ℕ
total_bound = 2 ^ 64

unfoldable pub count_of : List Sample → Result ℕ Refusal
count_of l = when (ltb (length l) count_bound) (Ok (length l)) (Err refusal.Overflow)

unfoldable pub total_of : List Sample → Result ℕ Refusal
total_of l = when (ltb (bytes_of l) total_bound) (Ok (bytes_of l)) (Err refusal.Overflow)

-- INSIDE

-- the sample of a number, by what a lookup tells of it and whether it is sync
abbrev pub sample_by : ℕ → Located → Bool → Sample
sample_by n p b = record {
  number = n;
  offset = p.offset;
  size = p.size;
  time = p.time;
  duration = p.duration;
  composition = p.composition;
  sync = b;
}

-- a sample that fits as the first record
abbrev pub recorded : List ℕ → Sample → Output
recorded o s = when (leb record-length (length o)) (output (Ok 1) (put_of o 0 s)) (output (Err (refusal.TooSmall 1)) o)

-- what is told of a count of runs, in 32 bits and in 64
abbrev pub narrow_of : Option ℕ → Result ℕ Refusal
narrow_of (Some n) = when (ltb n count_bound) (Ok n) (Err refusal.Overflow)
narrow_of None = Err refusal.Overflow

abbrev pub whole_of : Option ℕ → Result ℕ Refusal
whole_of (Some n) = Ok n
whole_of None = Err refusal.Overflow
