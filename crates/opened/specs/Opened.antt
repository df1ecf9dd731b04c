-- What is told of one track of a file (document 01, Scope: sample lookup and listing, track summary), by its place in the
-- moov, counted from 0: its number, its samples, one of them, or its figures. First the file is refused by its boxes (A1),
-- then by its fragments (A13). A refusal leaves the buffer as it was. Assumes nothing.
use Rattle.std.specs.Prelude.{ℕ, ◌-◌, List, Bool, get_or, eqb, Result, Ok, Err}
use Rattle.numbers.specs.Field.{when}
use Rattle.numbers.specs.declared.Refusal.TheVariants as refusal
use Rattle.rows.specs.Judge.{settle}
use Rattle.places.specs.Kinds.{trak}
use Rattle.samples.specs.Records.{Output, output, list_of}
use Rattle.samples.specs.declared.Sample.{Sample}
use Rattle.kin.specs.Kin.{Boxes}
use Rattle.contents.specs.Held.{part_of}
use Rattle.opening.specs.Opening.{refusal_of}
use Rattle.traks.specs.Traks.{traks_of, number_of, tables_of}
use Rattle.runs.specs.declared.Run.{Run}
use Rattle.moofs.specs.Moofs.{All, all, refused, Fragment, fragments_of, all_runs}
use Rattle.follows.specs.Fragments.{moofs_of}
use Rattle.movie.specs.Movie.{is_fragmented}
use Rattle.tracksamples.specs.TrackSamples.{samples_from, one_of, count_of, total_of}
use Rattle.tracksamples.specs.declared.Source.{Source}
use Rattle.tables.specs.declared.Track.{Track}
use Rattle.figures.specs.Words.{figures_of}
use Rattle.audit.specs.Boxes.{scanned_of, boxes_of, count_of as rows_of}
use Rattle.opened.specs.declared.Question.{Question}
use Rattle.opened.specs.declared.Question.TheVariants as question
use Rattle.numbers.specs.declared.Refusal.{Refusal}

-- THE ANSWER

-- the figures of a track by the bytes of its trak, how many samples it has, and the bytes of these
abbrev pub by_total : List ℕ → ℕ → List ℕ → Result ℕ Refusal → Output
by_total bytes count o (Ok total) = figures_of bytes count total o
by_total bytes count o (Err q) = output (Err q) o

abbrev pub by_count : List ℕ → List Sample → List ℕ → Result ℕ Refusal → Output
by_count bytes l o (Ok count) = by_total bytes count o (total_of l)
by_count bytes l o (Err q) = output (Err q) o

-- of a track with this number and these samples, whose trak has these bytes
unfoldable pub answer_of : Question → ℕ → List ℕ → List Sample → List ℕ → Output
answer_of question.Number number bytes l o = output (Ok number) o
answer_of question.List number bytes l o = list_of l o
answer_of (question.Sample n) number bytes l o = one_of l n o
answer_of question.Summary number bytes l o = by_count bytes l o (count_of l)

-- THE TRACK

-- of n recorded boxes: the trak at a place in the moov, its row and 1; 0 where there is none
abbrev pub trak_at : Boxes → ℕ → ℕ → ℕ
trak_at t n place = get_or (traks_of t n) place 0

abbrev pub source_of : Track → ℕ → Bool → Source
source_of tables number fragmented = record { tables = tables; number = number; fragmented = fragmented }

-- by its tables, and by the runs where the file is fragmented
abbrev pub by_tables : List ℕ → Boxes → ℕ → List Run → Bool → ℕ → Question → List ℕ → Result Track Refusal → Output
by_tables f t n rs fragmented row q o (Ok tables) =
    answer_of q (number_of f t n row) (part_of f t (row - 1)) (samples_from f (source_of tables (number_of f t n row) fragmented) rs) o
by_tables f t n rs fragmented row q o (Err r) = output (Err r) o

-- a trak is missing where there is no such track
unfoldable pub by_trak : List ℕ → Boxes → ℕ → List Run → Bool → ℕ → Question → List ℕ → Output
by_trak f t n rs fragmented row q o =
    when (eqb row 0) (output (Err (refusal.Missing trak)) o) (by_tables f t n rs fragmented row q o (tables_of f t n row))

-- THE FILE

-- by its fragments; a file with a moof is fragmented
unfoldable pub tell_in : List ℕ → Boxes → ℕ → ℕ → Question → List ℕ → All Fragment → Output
tell_in f t n place q o (all frs) = by_trak f t n (all_runs frs) (is_fragmented (moofs_of f frs)) (trak_at t n place) q o
tell_in f t n place q o (refused r) = output (Err r) o

unfoldable pub tell_of : List ℕ → ℕ → Question → List ℕ → Output
tell_of f place q o =
    settle (tell_in f (boxes_of f) (rows_of f) place q o (fragments_of f (boxes_of f) (rows_of f))) (λ r. output (Err r) o)
    (refusal_of f (boxes_of f) (scanned_of f))
