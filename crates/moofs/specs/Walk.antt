-- INSIDE: one walk over the rows, which stores each moof and each run in its row. What the walk has left to store is
-- the definition's fragments (proofs/Left.antt). Assumes nothing.
use Rattle.std.specs.Prelude.{ℕ, zero, suc, ◌+◌, ◌≤◌, ◌≡◌, List, [], ◌∷◌, true, false, length, Result, Option, Ok, Err, Some, None}
use Rattle.std.proofs.lemmas.List.Edits.{sets}
use Rattle.numbers.specs.Field.{when}
use Rattle.numbers.specs.declared.Refusal.TheVariants as refusal
use Rattle.numbers.specs.declared.Refusal.{Refusal}
use Rattle.places.specs.Kinds.{moof, traf, mfhd}
use Rattle.kin.specs.Kin.{Boxes, at, stands}
use Rattle.inside.specs.Inside.{child}
use Rattle.put.specs.Put.{Wrote, wrote}
use Rattle.mfhd.specs.Mfhd.{mfhd_of}
use Rattle.runs.specs.Samples.{end_of}
use Rattle.runs.specs.declared.Run.{Run}
use Rattle.trafs.specs.Trafs.{bytes_of, run_of}
use Rattle.runtable.specs.Table as runtable
use Rattle.mooftable.specs.Table as mooftable
use Rattle.mooftable.specs.declared.Moof.{Moof}
use Rattle.moofs.specs.Moofs.{Fragment, All, all, refused, with_number, all_runs, moofs_from, run_numbers, moof_numbers, filled_record}
use Rattle.moofs.specs.declared.State.{State}
use Rattle.moofs.specs.declared.Filled.{Filled}

-- ONE ROW

-- what a row does: nothing; a moof begins, at that byte and with that number; a run is added, whose data end there; or it
-- is refused
pub data Move : Type 0 where
  still : Move
  begins : ℕ → ℕ → Move
  adds : Run → ℕ → Move
  stop : Refusal → Move

abbrev pub row : ℕ → ℕ → ℕ → Moof
row start number i = record { start = start; number = number; runs = i }

abbrev pub begun : ℕ → State → State
begun start σ = record { inside = true; start = start; first = true; previous = start; runs = σ.runs; moofs = σ.moofs + 1 }

abbrev pub added : ℕ → State → State
added e σ = record { inside = true; start = σ.start; first = false; previous = e; runs = σ.runs + 1; moofs = σ.moofs }

-- a moof in row j
unfoldable pub begin_of : List ℕ → Boxes → ℕ → ℕ → Move
begin_of s t n j =
    with_number (mfhd_of (bytes_of s t (child t n mfhd (j + 1)))) (stop (refusal.Value (at t.starts j))) (begins (at t.starts j))

abbrev pub add_to : Run → Option ℕ → Move
add_to r (Some e) = adds r e
add_to r None = stop refusal.Overflow

abbrev pub add_by : List ℕ → Result Run Refusal → Move
add_by s (Ok r) = add_to r (end_of s r)
add_by s (Err q) = stop q

-- a traf in row j
unfoldable pub add_of : List ℕ → Boxes → ℕ → ℕ → State → Move
add_of s t n j σ = add_by s (run_of s t n (j + 1) σ.start σ.first σ.previous)

-- any row j: a traf before the first moof is none
unfoldable pub move_of : List ℕ → Boxes → ℕ → ℕ → State → Move
move_of s t n j σ =
    when (stands t moof j) (begin_of s t n j) (when σ.inside (when (stands t traf j) (add_of s t n j σ) still) still)

abbrev pub table_of : Wrote → List ℕ
table_of (wrote p l) = l

-- an answer for a row, with the tables as they are left
pub data Turned : Type 0 where
  turned : Result State Refusal → List ℕ → List ℕ → Turned

-- what a move leaves, from the state before it and the tables; a row that has no room is not stored
abbrev pub turn_of : State → Move → List ℕ → List ℕ → Turned
turn_of σ still r m = turned (Ok σ) r m
turn_of σ (begins start number) r m = turned (Ok (begun start σ)) r (table_of (mooftable.store_of (row start number σ.runs) σ.moofs m))
turn_of σ (adds x e) r m = turned (Ok (added e σ)) (table_of (runtable.store_of x σ.runs r)) m
turn_of σ (stop q) r m = turned (Err q) r m

-- ALL ROWS

-- the rows that are left to be stored, or the first refusal
pub data Plan : Type 0 where
  plan : List Run → List Moof → Plan
  none : Refusal → Plan

abbrev pub run_first : Run → Plan → Plan
run_first r (plan rs ms) = plan (r ∷ rs) ms
run_first r (none q) = none q

abbrev pub moof_first : Moof → Plan → Plan
moof_first m (plan rs ms) = plan rs (m ∷ ms)
moof_first m (none q) = none q

abbrev pub left_by : State → Move → (State → Plan) → Plan
left_by σ still go = go σ
left_by σ (begins start number) go = moof_first (row start number σ.runs) (go (begun start σ))
left_by σ (adds r e) go = run_first r (go (added e σ))
left_by σ (stop q) go = none q

-- of k rows from row j on
unfoldable pub left_in : List ℕ → Boxes → ℕ → ℕ → ℕ → State → Plan
left_in s t n zero j σ = plan [] []
left_in s t n (suc k) j σ = left_by σ (move_of s t n j σ) (left_in s t n k (j + 1))

-- all rows of the tables, by the definition
unfoldable pub plan_of : All Fragment → Plan
plan_of (all fs) = plan (all_runs fs) (moofs_from 0 fs)
plan_of (refused q) = none q

-- how many there are, after i runs and k moofs
abbrev pub tally : ℕ → ℕ → Plan → Result Filled Refusal
tally i k (plan rs ms) = Ok (filled_record (i + length rs) (k + length ms))
tally i k (none q) = Err q

-- the tables after the walk, where all rows have room
abbrev pub Stored : Plan → List ℕ → List ℕ → List ℕ → List ℕ → Type 0
Stored p r o m q =
    (rs : List Run) (ms : List Moof) → p ≡ plan rs ms →
    (length rs ≤ runtable.holds r → o ≡ sets r 0 (run_numbers rs)) × (length ms ≤ mooftable.holds m → q ≡ sets m 0 (moof_numbers ms))
