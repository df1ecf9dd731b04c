-- How many samples there are, of any list of samples. Assumes nothing.
use Rattle.std.specs.Prelude.{ℕ, ◌/◌, ◌≤◌, ◌≡◌, List, [], ◌∷◌, Bool, true, ◌&&◌, length, ltb, Option, Some, None}
use Rattle.std.proofs.lemmas.List.Edits.{sets}
use Rattle.numbers.specs.Field.{when}
use Rattle.samples.specs.Lists.{time_bound, all_held}
use Rattle.samples.specs.Records.{records_of, record-length}
use Rattle.samples.specs.declared.Sample.{Sample}

-- how many there are, where every one fits (A13)
unfoldable pub count_of : List Sample → Option ℕ
count_of l = when (all_held l) (Some (length l)) None

-- INSIDE

-- the buffer after every sample was put into it: all records, where they fit and have room
abbrev pub Filled : List Sample → List ℕ → List ℕ → Type 0
Filled l o p = length l ≤ length o / record-length → all_held l ≡ true → p ≡ sets o 0 (records_of l)

-- every chunk begins below 2^63
abbrev pub all_low : List ℕ → Bool
all_low [] = true
all_low (c ∷ cs) = ltb c time_bound && all_low cs
