-- The samples that a lane has left: the same tables, each from where the lane's cursor stands. `left-fresh`
-- (proofs/Left.antt) says that a lane that begins has the samples of the track left. Assumes nothing.
use Rattle.std.specs.Prelude.{ℕ, zero, suc, ◌+◌, List, [], ◌∷◌, ◌++◌, take, drop, replicate, Option, Some, None}
use Rattle.tables.specs.Tables.{values_of, pairs, groups, chunks, sizes, Syncs, every, those, numbers}
use Rattle.tables.specs.Samples.{starts, place, zipped}
use Rattle.tables.specs.declared.Row.{Row}
use Rattle.lanes.specs.declared.Runs.{Runs}
use Rattle.lanes.specs.declared.Place.{Place}
use Rattle.lanes.specs.declared.Marks.{Marks}
use Rattle.tables.specs.declared.Track.{Track}
use Rattle.samples.specs.Lists.{View, none, over, one}
use Rattle.samples.specs.declared.Sample.{Sample}
use Rattle.lanes.specs.declared.Lane.{Lane}
use Rattle.lanes.specs.declared.Taken.{Taken}
use Rattle.lanes.specs.declared.Taken.TheVariants as taken
use Rattle.tables.specs.declared.Table.{Table}

-- the values left of rows: `left` of one value, then those of the rows from i on
unfoldable pub runs_at : List Row → ℕ → ℕ → ℕ → List ℕ
runs_at rs i left value = replicate left value ++ values_of (drop i rs)

abbrev pub runs_left : List Row → Runs → List ℕ
runs_left rs c = runs_at rs c.next c.left c.value

-- the places left, of samples of the sizes ss: `left` of a chunk, the next one at `at`; then those of the chunks from k
-- on
unfoldable pub places_at : List Row → List ℕ → ℕ → ℕ → ℕ → Runs → List ℕ → List ℕ
places_at rs cs left at k c ss = starts at (take left ss) ++ place (runs_left rs c) (drop k cs) (drop left ss)

abbrev pub places_left : List Row → List ℕ → Place → List ℕ → List ℕ
places_left rs cs p ss = places_at rs cs p.left p.at p.chunk p.groups ss

abbrev pub shifts_left : List ℕ → Option Table → Runs → List ℕ
shifts_left f None c = []
shifts_left f (Some t) c = runs_left (pairs f t) c

-- the sync numbers left: the one that was read and has not come, then those from entry i on
abbrev pub marked : ℕ → List ℕ → List ℕ
marked zero ns = ns
marked (suc n) ns = suc n ∷ ns

unfoldable pub marks_left : List ℕ → Marks → List ℕ
marks_left ns m = marked m.number (drop m.next ns)

unfoldable pub syncs_left : List ℕ → Option Table → Marks → Syncs
syncs_left f None m = every
syncs_left f (Some t) m = those (marks_left (numbers f t) m)

abbrev pub sizes_left : List ℕ → Track → Lane → List ℕ
sizes_left f t l = drop l.done (sizes f t.stsz)

-- the samples that a lane has left
unfoldable pub left : List ℕ → Track → Lane → List Sample
left f t l =
    zipped l.done l.time (sizes_left f t l) (runs_left (pairs f t.stts) l.times)
    (places_left (groups f t.stsc t.stco.count) (chunks f t.stco) l.place (sizes_left f t l))
    (shifts_left f t.ctts l.shifts) (syncs_left f t.stss l.syncs)

abbrev pub begun : Runs
begun = record { next = 0; left = 0; value = 0 }

-- a lane that begins
abbrev pub fresh : Lane
fresh = record {
  done = 0;
  time = 0;
  times = begun;
  shifts = begun;
  syncs = record { next = 0; number = 0 };
  place = record { left = 0; at = 0; chunk = 0; groups = begun };
}

-- what an answer shows: a sample, and what the lane after it has left
abbrev pub shows : List ℕ → Track → Taken → View
shows f t (taken.One s l) = one s (left f t l)
shows f t taken.End = none
shows f t taken.Over = over
