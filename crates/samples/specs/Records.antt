-- A list of samples in a lent buffer: a record of seven numbers for each, one behind the other. Assumes nothing.
use Rattle.std.specs.Prelude.{ℕ, ◌+◌, ◌-◌, ◌*◌, ◌^◌, List, [], ◌∷◌, ◌++◌, Bool, true, false, length, leb, ltb, ℤ, pos, negsuc, Result, Ok, Err}
use Rattle.std.proofs.lemmas.List.Edits.{sets}
use Rattle.numbers.specs.Field.{when}
use Rattle.numbers.specs.declared.Refusal.TheVariants as refusal
use Rattle.samples.specs.Lists.{all_held}
use Rattle.samples.specs.declared.Sample.{Sample}
use Rattle.numbers.specs.declared.Refusal.{Refusal}

-- the 64 bits of a signed number, in two's complement
abbrev pub bits_of : ℤ → ℕ
bits_of (pos n) = n
bits_of (negsuc n) = 2 ^ 64 - 1 - n

abbrev pub bit_of : Bool → ℕ
bit_of true = 1
bit_of false = 0

-- the numbers of a sample, and how many there are
abbrev pub numbers_of : Sample → List ℕ
numbers_of s = s.number ∷ s.offset ∷ s.size ∷ s.time ∷ s.duration ∷ bits_of s.composition ∷ bit_of s.sync ∷ []

abbrev pub record-length : ℕ
record-length = 7

abbrev pub records_of : List Sample → List ℕ
records_of [] = []
records_of (s ∷ l) = numbers_of s ++ records_of l

-- s as record i, where there is room for it
unfoldable pub put_of : List ℕ → ℕ → Sample → List ℕ
put_of o i s = when (leb (i * record-length + record-length) (length o)) (sets o (i * record-length) (numbers_of s)) o

-- an answer, with the buffer as it is left
pub data Output : Type 0 where
  output : Result ℕ Refusal → List ℕ → Output

-- 9 where a sample does not fit; 12 with the number of records where they have no room (A61); else every sample, and
-- what lies past them stays
abbrev pub list_of : List Sample → List ℕ → Output
list_of l o =
    when (all_held l)
    (when (leb (length l * record-length) (length o)) (output (Ok (length l)) (sets o 0 (records_of l))) (output (Err (refusal.TooSmall (length l))) o))
    (output (Err refusal.Overflow) o)
