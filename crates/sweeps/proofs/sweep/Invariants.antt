use Prim.Native.Nat.{◌+◌, ◌-◌}
use lib.ListN.{length, take}
use Rattle.kin.specs.Kin.{boxes}
use Rattle.runtable.specs.Table.{rows_of}
use Rattle.payloads.specs.Payloads.{payloads_from}
use Rattle.sweeps.specs.Tracks.{tracks_in}
use Rattle.sweeps.specs.Heads.{weight}
use Rattle.sweeps.proofs.Lanes.{lanes_in}
use Rattle.sweeps.proofs.Walk.{Walking}
use Rattle.sweeps.proofs.sweep.Given as goal

abbrev pub invariant-loop-finding : goal.invariant-loop-finding
invariant-loop-finding l =
    Walking (payloads_from l.file (boxes l.starts l.sizes l.kinds l.parents l.placed) l.n 0) (tracks_in l.fragmented l.file (rows_of l.table l.rows) (take l.count l.numbers) (take l.count l.tracks)) l.most l.fragmented l.file (rows_of l.table l.rows) l.numbers l.tracks l.heads l.by_table l.by_run l.filled l.p l.end (payloads_from l.file (boxes l.starts l.sizes l.kinds l.parents l.placed) l.n l.row)

abbrev pub decreases-loop-finding : goal.decreases-loop-finding
decreases-loop-finding l =
    length (payloads_from l.file (boxes l.starts l.sizes l.kinds l.parents l.placed) l.n l.row) + weight l.most l.filled l.heads (lanes_in l.fragmented l.file (rows_of l.table l.rows) l.numbers l.tracks l.by_table l.by_run)
