-- What the code tells on its way. Assumes nothing.
use Rattle.std.specs.Prelude.{ℕ, List, [], ◌++◌, Bool, false, eqb, ltb}
use Rattle.numbers.specs.Field.{when}
use Rattle.kin.specs.Kin.{Boxes, track_limit}
use Rattle.tables.specs.declared.Track as tables
use Rattle.moofs.specs.Moofs.{All, all, refused}
use Rattle.runs.specs.declared.Run.{Run}
use Rattle.payloads.specs.Payloads.{payloads_from}
use Rattle.verdicts.specs.Fragments.{Moof}
use Rattle.verdicts.specs.declared.Audited.{Audited}
use Rattle.verdicts.specs.declared.Audited.TheVariants.{Refused}
use Rattle.movie.specs.Movie.{movie_of, judge_of}
use Rattle.audit.specs.File.{Opened, is, is_not, first_traks, numbers_of, tables_in}

-- a further trak, and room for it
unfoldable pub more_of : ℕ → ℕ → Bool
more_of trak count = when (eqb trak 0) false (ltb count track_limit)

-- the answer to a movie
abbrev pub judged_all : Opened → Audited
judged_all (is m) = judge_of m
judged_all (is_not q) = Refused q

-- behind tracks that are there, by the tables of those that follow
abbrev pub judged_with : List ℕ → Boxes → ℕ → List Run → List Moof → List ℕ → List tables.Track → List ℕ → All tables.Track → Audited
judged_with f t n rs ms ns ts more (all us) = judge_of (movie_of f (payloads_from f t n 0) (ns ++ more) (ts ++ us) rs ms)
judged_with f t n rs ms ns ts more (refused q) = Refused q

-- by these runs and moofs
abbrev pub judged_by : List ℕ → Boxes → ℕ → List Run → List Moof → Audited
judged_by f t n rs ms = judged_with f t n rs ms [] [] (numbers_of f t n (first_traks t n)) (tables_in f t n (first_traks t n))
