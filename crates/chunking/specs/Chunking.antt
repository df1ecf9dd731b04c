-- The chunks of samples that are to be written (01, Writer: "A chunk closes when its durations reach one timescale"; A59:
-- after the sample that makes their sum reach it, in ℕ). Tables tell only where a chunk's first sample lies, and the
-- others come behind it (ISO/IEC 14496-12, 8.7.5.1), so that a chunk closes too before a sample that does not begin where
-- the one before it ends. The rest is closed at the end. Assumes nothing.
use Rattle.std.specs.Prelude.{ℕ, ◌+◌, List, [], ◌∷◌, ◌++◌, Bool, ◌&&◌, eqb, ltb}
use Rattle.numbers.specs.Field.{when}
use Rattle.tables.specs.Tables.{listed}
use Rattle.merging.specs.Merging.{most}
use Rattle.columns.specs.Columns.{cell_of, low_at}
use Rattle.chunking.specs.declared.Chunk.{Chunk}
use Rattle.chunking.specs.declared.Step.{Step}
use Rattle.chunking.specs.declared.Step.TheVariants.{Longer, Closed}

-- what a chunk asks of a sample
pub record Piece : Type 0 where
  pub offset : ℕ
  pub size : ℕ
  pub duration : ℕ

abbrev pub piece : ℕ → ℕ → ℕ → Piece
piece o s d = record { offset = o; size = s; duration = d }

abbrev pub empty : Chunk
empty = record { at = 0; count = 0; lasts = 0; last = 0; size = 0 }

-- a chunk of one sample
abbrev pub alone : Piece → Chunk
alone p = record { at = p.offset; count = 1; lasts = p.duration; last = p.offset; size = p.size }

abbrev pub joined : Chunk → Piece → Chunk
joined c p = record { at = c.at; count = c.count + 1; lasts = c.lasts + p.duration; last = p.offset; size = p.size }

-- the chunk is not full, a sample at that place begins where its last one ends, and 32 bits count one more
unfoldable pub goes_on : ℕ → Chunk → ℕ → Bool
goes_on t c o = ltb c.lasts t && (eqb o (c.last + c.size) && ltb c.count most)

unfoldable pub step_of : ℕ → Chunk → Piece → Step
step_of t c p = when (eqb c.count 0) (Longer (alone p)) (when (goes_on t c p.offset) (Longer (joined c p)) (Closed c (alone p)))

unfoldable pub finish_of : Chunk → Step
finish_of c = when (eqb c.count 0) (Longer empty) (Closed c empty)

-- the chunk that a step closed, if any, and the one that is open after it
abbrev pub closed_of : Step → List Chunk
closed_of (Longer c) = []
closed_of (Closed c o) = c ∷ []

abbrev pub open_of : Step → Chunk
open_of (Longer c) = c
open_of (Closed c o) = o

-- the chunks of an open chunk and the samples after it, for a timescale
abbrev pub chunks_from : ℕ → Chunk → List Piece → List Chunk
chunks_from t c [] = closed_of (finish_of c)
chunks_from t c (p ∷ ps) = closed_of (step_of t c p) ++ chunks_from t (open_of (step_of t c p)) ps

abbrev pub chunks_of : ℕ → List Piece → List Chunk
chunks_of t ps = chunks_from t empty ps

-- the samples in the first n records of a buffer
abbrev pub piece_at : List ℕ → ℕ → Piece
piece_at rs i = piece (cell_of rs 1 i) (low_at rs 2 i) (low_at rs 4 i)

abbrev pub chunks_in : ℕ → List ℕ → ℕ → List Chunk
chunks_in t rs n = chunks_of t (listed (piece_at rs) n)
