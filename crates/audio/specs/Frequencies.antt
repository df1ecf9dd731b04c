-- The sampling frequencies by their index (ISO/IEC 14496-3, table 1.18). 13 and 14 are reserved and 15 says that the
-- frequency itself follows: these are 8, and so is a frequency without an index (A63). Assumes nothing.
use Rattle.std.specs.Prelude.{ℕ, suc, List, [], ◌∷◌, eqb, ltb, length, get_or, Result, Ok, Err}
use Rattle.numbers.specs.Field.{when}
use Rattle.numbers.specs.declared.Refusal.TheVariants as refusal
use Rattle.numbers.specs.declared.Refusal.{Refusal}

abbrev pub frequencies : List ℕ
frequencies = 96000 ∷ 88200 ∷ 64000 ∷ 48000 ∷ 44100 ∷ 32000 ∷ 24000 ∷ 22050 ∷ 16000 ∷ 12000 ∷ 11025 ∷ 8000 ∷ 7350 ∷ []

abbrev pub frequency_of : ℕ → Result ℕ Refusal
frequency_of index = when (ltb index (length frequencies)) (Ok (get_or frequencies index 0)) (Err (refusal.Value 0))

-- the place of f in the list, counted from i
unfoldable pub place_of : ℕ → List ℕ → ℕ → Result ℕ Refusal
place_of f [] i = Err (refusal.Value 0)
place_of f (x ∷ xs) i = when (eqb x f) (Ok i) (place_of f xs (suc i))

abbrev pub index_of : ℕ → Result ℕ Refusal
index_of f = place_of f frequencies 0
