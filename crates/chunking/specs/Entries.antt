-- The entries of stco, co64 and stsc for the chunks of samples (ISO/IEC 14496-12, 8.7.5 and 8.7.4). Assumes nothing.
use Rattle.std.specs.Prelude.{ℕ, ◌+◌, ◌*◌, ◌/◌, ◌%◌, ◌^◌, ◌≡◌, List, [], ◌∷◌, ◌++◌, Bool, true, false, ◌&&◌, length, eqb, leb, Err}
use Rattle.numbers.specs.Field.{when}
use Rattle.numbers.specs.declared.Refusal.TheVariants as refusal
use Rattle.put.specs.Put.{Wrote, wrote}
use Rattle.tables.specs.Tables.{total}
use Rattle.tables.specs.declared.Row.{Row}
use Rattle.merging.specs.declared.Open.{Open}
use Rattle.merging.specs.declared.Step.{Step}
use Rattle.merging.specs.Merging.{merged_of, step_of, rows_of, open_of}
use Rattle.columns.specs.Columns.{column_of, all_meet}
use Rattle.columns.specs.declared.Rule.TheVariants.{Narrow}
use Rattle.columns.specs.Entries.{built_of, Emitted}
use Rattle.chunking.specs.Chunking.{chunks_in}
use Rattle.chunking.specs.declared.Chunk.{Chunk}
use Rattle.chunking.specs.declared.Group.{Group}

-- sizes and durations have 32 bits
unfoldable pub fits_in : List ℕ → ℕ → Bool
fits_in rs n = when (all_meet Narrow (column_of rs n 2)) (all_meet Narrow (column_of rs n 4)) false

-- 8 for a timescale of 0 (A59), then the refusals of every builder
abbrev pub chunked_of : ℕ → List ℕ → ℕ → List ℕ → List ℕ → Wrote
chunked_of t rs n ns o = when (eqb t 0) (wrote (Err (refusal.Value 0)) o) (built_of rs n (fits_in rs n) ns o)

-- PLACES

-- a place in 32 bits, or in 64 as two numbers of 32
unfoldable pub offset_words : Bool → ℕ → List ℕ
offset_words true at = at / 2 ^ 32 ∷ at % 2 ^ 32 ∷ []
offset_words false at = at % 2 ^ 32 ∷ []

abbrev pub offsets_by : Bool → List Chunk → List ℕ
offsets_by wide [] = []
offsets_by wide (c ∷ cs) = offset_words wide c.at ++ offsets_by wide cs

-- the place of a chunk has no 32 bits
abbrev pub any_wide : List Chunk → Bool
any_wide [] = false
any_wide (c ∷ cs) = when (leb (2 ^ 32) c.at) true (any_wide cs)

-- stco where all places fit, else co64
abbrev pub offsets_of : ℕ → List ℕ → ℕ → List ℕ → Wrote
offsets_of t rs n o = chunked_of t rs n (offsets_by (any_wide (chunks_in t rs n)) (chunks_in t rs n)) o

-- SAMPLES PER CHUNK

abbrev pub counts_of : List Chunk → List ℕ
counts_of [] = []
counts_of (c ∷ cs) = c.count ∷ counts_of cs

-- runs of chunks that have as many samples each, the first of them being chunk f: its number, the samples, description 1
abbrev pub group_words : ℕ → List Row → List ℕ
group_words f [] = []
group_words f (r ∷ rs) = f ∷ r.value ∷ 1 ∷ group_words (f + r.count) rs

abbrev pub groups_in : ℕ → List ℕ → ℕ → List ℕ
groups_in t rs n = group_words 1 (merged_of (counts_of (chunks_in t rs n)))

abbrev pub stsc_of : ℕ → List ℕ → ℕ → List ℕ → Wrote
stsc_of t rs n o = chunked_of t rs n (groups_in t rs n) o

-- INSIDE

-- the rows that values close after an open run, and the run that is open after them
abbrev pub closed_rows : Open → List ℕ → List Row
closed_rows o [] = []
closed_rows o (v ∷ l) = rows_of (step_of o v) ++ closed_rows (open_of (step_of o v)) l

abbrev pub open_after : Open → List ℕ → Open
open_after o [] = o
open_after o (v ∷ l) = open_after (open_of (step_of o v)) l

-- rows are put, and the next run of chunks is open
pub record Rowed (rows : List Row) (after : Open) (g : Group) (p q : List ℕ) (h : Group) : Type 0 where
  pub words : Emitted (group_words g.first rows) p g.k q h.k
  pub next : h.first ≡ g.first + total rows
  pub going : h.run ≡ after

abbrev pub Joined : Step → Group → List ℕ → List ℕ → Group → Type 0
Joined s g p q h = Rowed (rows_of s) (open_of s) g p q h

abbrev pub Grouped : List Chunk → Group → List ℕ → List ℕ → Group → Type 0
Grouped cs g p q h = Rowed (closed_rows g.run (counts_of cs)) (open_after g.run (counts_of cs)) g p q h
