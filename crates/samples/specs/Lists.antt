-- What is asked of a list of samples, whatever told it: the first that does not fit, one by its number, the bytes of
-- all. Every number is in ℕ, without limit. Assumes nothing.
use Rattle.std.specs.Prelude.{ℕ, zero, suc, ◌+◌, ◌^◌, List, [], ◌∷◌, Bool, true, ◌&&◌, drop, ltb, Result, Ok, Err}
use Rattle.numbers.specs.Field.{when}
use Rattle.numbers.specs.declared.Refusal.TheVariants as refusal
use Rattle.samples.specs.declared.Sample.{Sample}
use Rattle.samples.specs.declared.Located.{Located}
use Rattle.numbers.specs.declared.Refusal.{Refusal}

-- a sample's end is below the first of these, and its time below the second (A13, 1 and 3), else refusal 9; its number
-- has 32 bits, which only runs can pass, and 01's limit of 65,536 samples keeps them from it
abbrev pub end_bound : ℕ
end_bound = 2 ^ 64

abbrev pub time_bound : ℕ
time_bound = 2 ^ 63

abbrev pub number_bound : ℕ
number_bound = 2 ^ 32

abbrev pub held : Sample → Bool
held s = ltb s.number number_bound && (ltb (s.offset + s.size) end_bound && ltb s.time time_bound)

-- what a list of samples shows: nothing, a sample that is not held, or its first and the rest
pub data View : Type 0 where
  none over : View
  one : Sample → List Sample → View

abbrev pub view : List Sample → View
view [] = none
view (s ∷ l) = when (held s) (one s l) over

-- what a lookup tells of a sample
abbrev pub located : Sample → Located
located s = record { offset = s.offset; size = s.size; time = s.time; duration = s.duration; composition = s.composition }

-- the first of the samples from number k on
abbrev pub first_of : ℕ → List Sample → Result Located Refusal
first_of k [] = Err (refusal.NoSample k)
first_of k (s ∷ l) = when (held s) (Ok (located s)) (Err refusal.Overflow)

-- the sample of that number, counted from 1: 11 with the number where there is none, 9 where it does not fit (A14)
unfoldable pub lookup_of : List Sample → ℕ → Result Located Refusal
lookup_of l zero = Err (refusal.NoSample 0)
lookup_of l (suc n) = first_of (suc n) (drop n l)

-- the bytes of all samples
abbrev pub bytes_of : List Sample → ℕ
bytes_of [] = 0
bytes_of (s ∷ l) = s.size + bytes_of l

-- every sample fits
abbrev pub all_held : List Sample → Bool
all_held [] = true
all_held (s ∷ l) = held s && all_held l
