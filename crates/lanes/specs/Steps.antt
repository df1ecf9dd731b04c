-- What the private functions of the lane promise: a cursor that is ready, and what comes after it. No public promise
-- rests on it. Assumes nothing.
use Rattle.std.specs.Prelude.{ℕ, zero, suc, ◌+◌, ◌-◌, ◌<◌, ◌≡◌, List, [], ◌∷◌, Bool, true, false, drop, eqb, Option, Some, None}
use Rattle.numbers.specs.Field.{when}
use Rattle.signed.specs.Signed.{signed}
use Rattle.tables.specs.Tables.{pairs, groups, chunks, sizes}
use Rattle.tables.specs.Samples.{first_or, rest, flag_of, past_of, zipped}
use Rattle.tables.specs.declared.Row.{Row}
use Rattle.tables.specs.declared.Rows.{Rows}
use Rattle.tables.specs.declared.Track.{Track}
use Rattle.samples.specs.declared.Sample.{Sample}
use Rattle.lanes.specs.Lane.{runs_left, places_at, places_left, shifts_left, syncs_left}
use Rattle.lanes.specs.declared.Runs.{Runs}
use Rattle.lanes.specs.declared.Place.{Place}
use Rattle.lanes.specs.declared.Shift.{Shift}
use Rattle.lanes.specs.declared.Marks.{Marks}
use Rattle.lanes.specs.declared.Lane.{Lane}
use Rattle.tables.specs.declared.Table.{Table}

abbrev pub rows_at : ℕ → ℕ → Bool → ℕ → Rows
rows_at at n g k = record { at = at; count = n; grouped = g; chunks = k }

-- a cursor over runs that is ready has a value left, or none is left at all
abbrev pub Ready : List Row → Runs → Type 0
Ready rs c = c.left ≡ 0 → [] ≡ runs_left rs c

-- the cursor after a value
abbrev pub after_of : Runs → Runs
after_of c = record { next = c.next; left = c.left - 1; value = c.value }

-- two cursors over places have the same left, whatever the sizes to come
abbrev pub SamePlaces : List Row → List ℕ → Place → Place → Type 0
SamePlaces rs cs p q = (ss : List ℕ) → places_left rs cs p ss ≡ places_left rs cs q ss

abbrev pub PlaceReady : List Row → List ℕ → Place → Type 0
PlaceReady rs cs p = p.left ≡ 0 → (ss : List ℕ) → [] ≡ places_left rs cs p ss

-- the offset of a cursor that is ready, 0 where none is left; and the cursor after it
abbrev pub shift_by : ℕ → Runs → Shift
shift_by zero c = record { value = 0; rest = c }
shift_by (suc n) c = record { value = c.value; rest = after_of c }

abbrev pub shift_of : Runs → Shift
shift_of c = shift_by c.left c

-- a cursor over stss that is ready has the next number, or no sample has it
abbrev pub MarkReady : List ℕ → Option Table → Marks → Type 0
MarkReady f None m = Unit {0}
MarkReady f (Some t) m = m.number ≡ 0 → (n : ℕ) → 0 < n → flag_of (syncs_left f (Some t) m) n ≡ false

-- whether sample n is sync, by a cursor that is ready; and the cursor after it
abbrev pub sync_of : Option Table → Marks → ℕ → Bool
sync_of None m n = true
sync_of (Some t) m n = eqb m.number n

abbrev pub unmarked : Marks → ℕ → Marks
unmarked m n = record { next = m.next; number = when (eqb m.number n) 0 m.number }

-- the samples from sample n on, where it has size z and lasts d, p is ready with its place, and c has the durations
-- after it
unfoldable pub samples_from : List ℕ → Track → Lane → ℕ → ℕ → ℕ → Runs → Place → List Sample
samples_from f t l n z d c p =
    record {
      number = n;
      offset = p.at;
      size = z;
      time = l.time;
      duration = d;
      composition = signed 4 (first_or 0 (shifts_left f t.ctts l.shifts));
      sync = flag_of (syncs_left f t.stss l.syncs) n;
    }
    ∷ zipped n (l.time + d) (drop n (sizes f t.stsz)) (runs_left (pairs f t.stts) c)
    (places_at (groups f t.stsc t.stco.count) (chunks f t.stco) (p.left - 1) (p.at + z) p.chunk p.groups (drop n (sizes f t.stsz)))
    (rest (shifts_left f t.ctts l.shifts)) (past_of (syncs_left f t.stss l.syncs) n)
