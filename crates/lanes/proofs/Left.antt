-- What a lane has left: all samples of the track where it begins, and never more than the tables say. Assumes nothing.
use Rattle.std.specs.Prelude.{Option, Some, None}
use Prim.Native.Nat.{ℕ, ◌-◌, ◌≤◌}
use mathlib.Core.Path.{◌≡◌, refl, ap₂}
use mathlib.Core.List.{List}
use native.Mathlib.Omega.{arith}
use lib.ListN.{length, length-drop}
use Rattle.tables.specs.Tables.{values_of, pairs, groups, chunks, sizes, size_at, shifts, Syncs, syncs}
use Rattle.tables.specs.Samples.{place, zipped, samples_of}
use Rattle.lanes.specs.Lane.{runs_at, runs_left, places_at, places_left, shifts_left, marks_left, syncs_left, sizes_left, left, begun, fresh}
use Rattle.tables.specs.declared.Row.{Row}
use Rattle.tables.specs.declared.Track.{Track}
use Rattle.lanes.specs.declared.Lane.{Lane}
use Rattle.tables.proofs.Lists.{length-list}
use Rattle.tables.proofs.Lengths.{length-zipped}
use Rattle.tables.specs.declared.Table.{Table}

-- A LANE THAT BEGINS

runs-fresh : (rs : List Row) → runs_left rs begun ≡ values_of rs
unfolding runs_at
runs-fresh rs = refl

shifts-fresh : (f : List ℕ) (o : Option Table) → shifts_left f o begun ≡ shifts f o
shifts-fresh f None = refl
shifts-fresh f (Some t) = runs-fresh (pairs f t)

syncs-fresh : (f : List ℕ) (o : Option Table) → syncs_left f o fresh.syncs ≡ syncs f o
unfolding syncs_left marks_left
syncs-fresh f None = refl
syncs-fresh f (Some t) = refl

pub left-fresh : (f : List ℕ) (t : Track) → left f t fresh ≡ samples_of f t
unfolding left runs_at places_at
left-fresh f t =
    ap₂ (λ (cs : List ℕ) (ys : Syncs). zipped 0 0 (sizes f t.stsz) (values_of (pairs f t.stts))
    (place (values_of (groups f t.stsc t.stco.count)) (chunks f t.stco) (sizes f t.stsz)) cs ys)
    (shifts-fresh f t.ctts) (syncs-fresh f t.stss)

pub left-few : (f : List ℕ) (t : Track) (l : Lane) → length (left f t l) ≤ t.stsz.count - l.done
unfolding left
left-few f t l =
    omega (
      arith,
      length-zipped l.done l.time (sizes_left f t l) (runs_left (pairs f t.stts) l.times) (places_left (groups f t.stsc t.stco.count) (chunks f t.stco) l.place (sizes_left f t l)) (shifts_left f t.ctts l.shifts) (syncs_left f t.stss l.syncs),
      length-drop l.done (sizes f t.stsz),
      length-list (size_at f t.stsz) t.stsz.count 0,
    )
