-- A movie, as the boxes of a file tell it: its tracks, its media data and its fragments; why it is refused (01, Answers
-- 9 and 10; A13, A15), and its audit. Assumes nothing.
use Rattle.std.specs.Prelude.{ℕ, ◌^◌, List, [], ◌∷◌, Bool, true, false, ◌&&◌, ◌||◌, ltb, Result, Ok, Err}
use Rattle.numbers.specs.Field.{when}
use Rattle.numbers.specs.declared.Refusal.TheVariants as refusal
use Rattle.rows.specs.Judge.{settle}
use Rattle.samples.specs.Lists.{all_held}
use Rattle.tables.specs.declared.Track as tables
use Rattle.tables.specs.Samples.{samples_of}
use Rattle.agree.specs.Agree.{agree_of}
use Rattle.runs.specs.declared.Run.{Run}
use Rattle.verdicts.specs.Findings.{Track, track, Span}
use Rattle.verdicts.specs.Sweep.{bytes}
use Rattle.verdicts.specs.Fragments.{Moof}
use Rattle.verdicts.specs.Audit.{audit_of, audited}
use Rattle.verdicts.specs.declared.Audited.{Audited}
use Rattle.verdicts.specs.declared.Audited.TheVariants.{Refused}
use Rattle.fragments.specs.Samples.{samples_of_runs}
use Rattle.samples.specs.declared.Sample.{Sample}
use Rattle.follows.specs.Follows.{gaps_fit}
use Rattle.numbers.specs.declared.Refusal.{Refusal}

-- the bytes of the file; the payloads of its mdats; its tracks in the order of the moov, by their numbers and by their
-- tables; the runs of its fragments, and its moofs, in the order of the file
pub record Movie : Type 0 where
  pub file : List ℕ
  pub payloads : List Span
  pub numbers : List ℕ
  pub tables : List tables.Track
  pub runs : List Run
  pub moofs : List Moof

abbrev pub movie_of : List ℕ → List Span → List ℕ → List tables.Track → List Run → List Moof → Movie
movie_of f m ns ts rs fs = record { file = f; payloads = m; numbers = ns; tables = ts; runs = rs; moofs = fs }

-- a file with a moof is fragmented: its samples are those of its runs
abbrev pub is_fragmented : List Moof → Bool
is_fragmented [] = false
is_fragmented (m ∷ ms) = true

-- THE TRACKS

-- the samples of track n, by runs or by tables
abbrev pub samples_by : Bool → List ℕ → tables.Track → List Run → ℕ → List Sample
samples_by b f t rs n = when b (samples_of_runs f rs n) (samples_of f t)

abbrev pub tracks_by : Bool → List ℕ → List Run → List ℕ → List tables.Track → List Track
tracks_by b f rs [] ts = []
tracks_by b f rs (n ∷ ns) [] = []
tracks_by b f rs (n ∷ ns) (t ∷ ts) = track n (agree_of f t) (samples_by b f t rs n) ∷ tracks_by b f rs ns ts

abbrev pub tracks_of : Movie → List Track
tracks_of m = tracks_by (is_fragmented m.moofs) m.file m.runs m.numbers m.tables

-- REFUSALS

-- every sample fits, those of the tables in a fragmented file too
abbrev pub samples_fit : Bool → List ℕ → List Run → List ℕ → List tables.Track → Bool
samples_fit b f rs [] ts = true
samples_fit b f rs (n ∷ ns) [] = true
samples_fit b f rs (n ∷ ns) (t ∷ ts) = (all_held (samples_of f t) && all_held (samples_by b f t rs n)) && samples_fit b f rs ns ts

-- every sum fits: samples, gaps, and the bytes of the media data, which in a file are no more than the file's
abbrev pub sums_fit : Movie → Bool
sums_fit m =
    samples_fit (is_fragmented m.moofs) m.file m.runs m.numbers m.tables
    && (gaps_fit m.numbers m.moofs && ltb (bytes m.payloads) (2 ^ 64))

-- some track has samples in its tables
abbrev pub has_samples : List tables.Track → Bool
has_samples [] = false
has_samples (t ∷ ts) = ltb 0 t.stsz.count || has_samples ts

-- a sum that does not fit; then a moof, and samples in the moov
unfoldable pub refusal_in : Movie → Result (Unit {0}) Refusal
refusal_in m =
    when (sums_fit m)
    (when (is_fragmented m.moofs && has_samples m.tables) (Err refusal.Mixed) (Ok tt))
    (Err refusal.Overflow)

-- THE AUDIT

unfoldable pub judge_of : Movie → Audited
judge_of m = settle (audited (audit_of (tracks_of m) m.payloads m.moofs)) Refused (refusal_in m)
