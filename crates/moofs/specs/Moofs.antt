-- The fragments of a file (ISO/IEC 14496-12, 8.8.4 to 8.8.8), by the boxes that are recorded in the tables, in the order of
-- the file: a moof's first byte, its sequence number, and the run of each of its trafs. A box counts where it stands in
-- its place (A2); so the trafs of a moof are those in the rows from it up to the next moof. Assumes nothing.
use Rattle.std.specs.Prelude.{ℕ, zero, suc, ◌+◌, min, List, [], ◌∷◌, ◌++◌, Bool, true, false, length, leb, Result, Option, Ok, Err, Some, None}
use Rattle.std.proofs.lemmas.List.Edits.{sets}
use Rattle.numbers.specs.Field.{when}
use Rattle.numbers.specs.declared.Refusal.TheVariants as refusal
use Rattle.numbers.specs.declared.Refusal.{Refusal}
use Rattle.places.specs.Kinds.{moof, traf, mfhd}
use Rattle.places.specs.Visit.{box_limit}
use Rattle.kin.specs.Kin.{Boxes, at, stands}
use Rattle.inside.specs.Inside.{child}
use Rattle.mfhd.specs.Mfhd.{mfhd_of}
use Rattle.runs.specs.Samples.{end_of}
use Rattle.runs.specs.declared.Run.{Run}
use Rattle.trafs.specs.Trafs.{bytes_of, run_of}
use Rattle.runtable.specs.Table as runtable
use Rattle.mooftable.specs.Table as mooftable
use Rattle.mooftable.specs.declared.Moof.{Moof}
use Rattle.moofs.specs.declared.Filled.{Filled}
use Rattle.mfhd.specs.declared.Mfhd.{Mfhd}

pub record Fragment : Type 0 where
  pub start : ℕ
  pub number : ℕ
  pub runs : List Run

abbrev pub fragment : ℕ → ℕ → List Run → Fragment
fragment start number runs = record { start = start; number = number; runs = runs }

-- all of a kind, or the first refusal
pub data All (A : Type 0) : Type 0 where
  all : List A → All A
  refused : Refusal → All A

-- one in front of the others
abbrev pub before : {A : Type 0} → A → All A → All A
before x (all l) = all (x ∷ l)
before x (refused q) = refused q

-- THE RUNS OF A MOOF

-- a run, and the runs behind it by the end of its data, which must not pass 2^64 - 1
abbrev pub with_end : Run → Option ℕ → (ℕ → All Run) → All Run
with_end r (Some e) go = before r (go e)
with_end r None go = refused refusal.Overflow

abbrev pub with_run : List ℕ → Result Run Refusal → (ℕ → All Run) → All Run
with_run s (Ok r) go = with_end r (end_of s r) go
with_run s (Err q) go = refused q

-- of k rows from row j on: the runs of the moof that begins at `start`, up to the next moof. `first` says that no traf
-- came before, `previous` where the data of the traf before end
unfoldable pub runs_in : List ℕ → Boxes → ℕ → ℕ → ℕ → ℕ → Bool → ℕ → All Run
runs_in s t n start zero j first previous = all []
runs_in s t n start (suc k) j first previous =
    when (stands t moof j) (all [])
    (when (stands t traf j)
    (with_run s (run_of s t n (j + 1) start first previous) (λ e. runs_in s t n start k (j + 1) false e))
    (runs_in s t n start k (j + 1) first previous))

-- THE FRAGMENTS

-- on with the number of a moof, or an answer without it
abbrev pub with_number : {A : Type 0} → Result Mfhd Refusal → A → (ℕ → A) → A
with_number (Ok h) without go = go h.sequence_number
with_number (Err q) without go = without

abbrev pub with_runs : All Run → (List Run → All Fragment) → All Fragment
with_runs (all rs) go = go rs
with_runs (refused q) go = refused q

-- of k rows from row j on: the fragments; a moof is refused whose mfhd is missing or is not read
unfoldable pub fragments_in : List ℕ → Boxes → ℕ → ℕ → ℕ → All Fragment
fragments_in s t n zero j = all []
fragments_in s t n (suc k) j =
    when (stands t moof j)
    (with_number (mfhd_of (bytes_of s t (child t n mfhd (j + 1)))) (refused (refusal.Value (at t.starts j)))
    (λ number. with_runs (runs_in s t n (at t.starts j) k (j + 1) true (at t.starts j))
    (λ rs. before (fragment (at t.starts j) number rs) (fragments_in s t n k (j + 1)))))
    (fragments_in s t n k (j + 1))

-- of n recorded boxes; behind the last row of the tables there is no box
abbrev pub fragments_of : List ℕ → Boxes → ℕ → All Fragment
fragments_of s t n = fragments_in s t n (min n box_limit) 0

-- THE TABLES

-- the runs of all fragments, one behind the other
abbrev pub all_runs : List Fragment → List Run
all_runs [] = []
all_runs (f ∷ fs) = f.runs ++ all_runs fs

-- each fragment as a row, where the first of them has its runs from row i of the table of runs on
abbrev pub moofs_from : ℕ → List Fragment → List Moof
moofs_from i [] = []
moofs_from i (f ∷ fs) = record { start = f.start; number = f.number; runs = i } ∷ moofs_from (i + length f.runs) fs

-- the numbers of all rows, one row behind the other
abbrev pub run_numbers : List Run → List ℕ
run_numbers [] = []
run_numbers (r ∷ rs) = runtable.numbers_of r ++ run_numbers rs

abbrev pub moof_numbers : List Moof → List ℕ
moof_numbers [] = []
moof_numbers (m ∷ ms) = mooftable.numbers_of m ++ moof_numbers ms

-- how many rows there are in each table
abbrev pub filled_record : ℕ → ℕ → Filled
filled_record runs moofs = record { runs = runs; moofs = moofs }

-- an answer, with the table of runs and that of moofs as they are left
pub data Output : Type 0 where
  output : Result Filled Refusal → List ℕ → List ℕ → Output

-- how many runs and moofs there are, and the tables with a row for each; or the tables as they were, and the first
-- refusal, else the rows that are needed where the table of runs, then that of moofs, has no room
abbrev pub fill_of : All Fragment → List ℕ → List ℕ → Output
fill_of (refused q) r m = output (Err q) r m
fill_of (all fs) r m =
    when (leb (length (all_runs fs)) (runtable.holds r))
    (when (leb (length fs) (mooftable.holds m))
    (output (Ok (filled_record (length (all_runs fs)) (length fs))) (sets r 0 (run_numbers (all_runs fs))) (sets m 0 (moof_numbers (moofs_from 0 fs))))
    (output (Err (refusal.TooSmall (length fs))) r m))
    (output (Err (refusal.TooSmall (length (all_runs fs)))) r m)
