-- The answer to a file's bytes: the movie that its boxes tell, or why it is refused (01, Answers; A1, A13, A15), and the
-- audit of that movie. Assumes nothing.
use Rattle.std.specs.Prelude.{ℕ, List, [], ◌∷◌, take, Result, Ok, Err}
use Rattle.numbers.specs.declared.Refusal.{Refusal}
use Rattle.rows.specs.Judge.{settle}
use Rattle.kin.specs.Kin.{Boxes, track_limit}
use Rattle.opening.specs.Opening.{refusal_of}
use Rattle.tables.specs.declared.Track as tables
use Rattle.traks.specs.Traks.{traks_of, number_of, tables_of}
use Rattle.moofs.specs.Moofs.{All, all, refused, before, fragments_of, all_runs}
use Rattle.payloads.specs.Payloads.{payloads_from}
use Rattle.follows.specs.Fragments.{moofs_of}
use Rattle.movie.specs.Movie.{Movie, movie_of, tracks_of, refusal_in}
use Rattle.verdicts.specs.Audit.{audit_of, audited}
use Rattle.verdicts.specs.declared.Audited.{Audited}
use Rattle.verdicts.specs.declared.Audited.TheVariants.{Refused}
use Rattle.audit.specs.Boxes.{scanned_of, boxes_of, count_of}
use Rattle.tables.specs.declared.Track.{Track}

-- THE TRACKS

-- the traks of the moov: no more than there may be, since one more is refused before (A8)
abbrev pub first_traks : Boxes → ℕ → List ℕ
first_traks t n = take track_limit (traks_of t n)

abbrev pub numbers_of : List ℕ → Boxes → ℕ → List ℕ → List ℕ
numbers_of f t n [] = []
numbers_of f t n (p ∷ ps) = number_of f t n p ∷ numbers_of f t n ps

abbrev pub with_tables : Result Track Refusal → All tables.Track → All tables.Track
with_tables (Ok x) rest = before x rest
with_tables (Err q) rest = refused q

-- their tables; each of their boxes was read before, so that none is refused here
abbrev pub tables_in : List ℕ → Boxes → ℕ → List ℕ → All tables.Track
tables_in f t n [] = all []
tables_in f t n (p ∷ ps) = with_tables (tables_of f t n p) (tables_in f t n ps)

-- THE MOVIE

pub data Opened : Type 0 where
  is : Movie → Opened
  is_not : Refusal → Opened

abbrev pub with_all : {A : Type 0} → All A → (List A → Opened) → Opened
with_all (all l) go = go l
with_all (refused q) go = is_not q

-- by n recorded boxes
unfoldable pub movie_in : List ℕ → Boxes → ℕ → Opened
movie_in f t n =
    with_all (fragments_of f t n)
    (λ frs. with_all (tables_in f t n (first_traks t n))
    (λ ts. is (movie_of f (payloads_from f t n 0) (numbers_of f t n (first_traks t n)) ts (all_runs frs) (moofs_of f frs))))

-- a movie, where nothing in it is refused
abbrev pub unless_refused : Opened → Opened
unless_refused (is m) = settle (is m) is_not (refusal_in m)
unless_refused (is_not q) = is_not q

-- a file: the tree, the contents of its boxes and what is missing; then what is refused of its movie
unfoldable pub open_of : List ℕ → Opened
open_of f = settle (unless_refused (movie_in f (boxes_of f) (count_of f))) is_not (refusal_of f (boxes_of f) (scanned_of f))

-- THE ANSWER

abbrev pub answer_to : Opened → Audited
answer_to (is m) = audited (audit_of (tracks_of m) m.payloads m.moofs)
answer_to (is_not q) = Refused q

unfoldable pub audit_file : List ℕ → Audited
audit_file f = answer_to (open_of f)
