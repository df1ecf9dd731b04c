-- What the inner functions of the writer of a sample table promise each other. A reader of the promise of `write` needs none
-- of it. Assumes nothing.
use Rattle.std.specs.Prelude.{ℕ, ◌+◌, ◌*◌, ◌^◌, ◌≤◌, ◌<◌, ◌≡◌, List, ◌∷◌, ◌++◌, true, length, Result, Ok, Err}
use Rattle.std.proofs.lemmas.List.Edits.{sets}
use Rattle.numbers.specs.Refusals.{detail}
use Rattle.put.specs.Put.{Wrote}
use Rattle.columns.specs.Entries.{words_of}
use Rattle.builder.specs.Built as builder
use Rattle.chunking.specs.Entries as chunking
use Rattle.sampletable.specs.SampleTable.{wide_in, list_of, kind_of, head_of, fits_in}
use Rattle.sampletable.specs.declared.Table.{Table}
use Rattle.sampletable.specs.declared.Table.TheVariants.{Stts, Ctts, Stsc, Stsz, Offsets, Stss}
use Rattle.numbers.specs.declared.Refusal.{Refusal}

-- the entries of a table, by its builder
unfoldable pub entries_in : Table → ℕ → List ℕ → ℕ → List ℕ → Wrote
entries_in Stts scale rs n o = builder.stts_of rs n o
entries_in Ctts scale rs n o = builder.ctts_of rs n o
entries_in Stsc scale rs n o = chunking.stsc_of scale rs n o
entries_in Stsz scale rs n o = builder.stsz_of rs n o
entries_in Offsets scale rs n o = chunking.offsets_of scale rs n o
entries_in Stss scale rs n o = builder.stss_of rs n o

-- the length that an answer tells
abbrev pub told_by : Result ℕ Refusal → ℕ
told_by (Ok k) = k
told_by (Err q) = detail q

-- the bytes between the first number and the entries
unfoldable pub behind_of : Table → ℕ
behind_of Stsz = 4
behind_of Stts = 0
behind_of Ctts = 0
behind_of Stsc = 0
behind_of Offsets = 0
behind_of Stss = 0

-- what a table's box has before its entries
abbrev pub before_of : Table → ℕ → List ℕ → ℕ → List ℕ
before_of t scale rs n = (12 + length (head_of t scale rs n ++ list_of t scale rs n) * 4) ∷ kind_of t (wide_in scale rs n) ∷ 0 ∷ head_of t scale rs n

-- no builder refuses
pub record Ready (scale : ℕ) (rs : List ℕ) (n : ℕ) : Type 0 where
  pub scaled : scale ≡ 0 → ⊥
  pub there : n * 7 ≤ length rs
  pub counted : n < 2 ^ 32
  pub fits : fits_in rs n ≡ true

-- numbers are put into the buffer o from a place on; it is now p, and r is the place after them
pub record Puts (ns o : List ℕ) (at : ℕ) (p : List ℕ) (r : ℕ) : Type 0 where
  pub next : r ≡ at + length ns * 4
  pub put : p ≡ sets o at (words_of ns)

-- there is room for them, and they end at a place of 32 bits
pub record HasRoom (ns o : List ℕ) (at : ℕ) : Type 0 where
  pub within : at + length ns * 4 ≤ length o
  pub small : at + length ns * 4 < 2 ^ 32
