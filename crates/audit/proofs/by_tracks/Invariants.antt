use Prim.Native.Nat.{◌-◌}
use Rattle.kin.specs.Kin.{boxes}
use Rattle.runtable.specs.Table.{rows_of}
use Rattle.mooftable.specs.Table as moof-rows
use Rattle.follows.specs.Follows.{moofs_in}
use Rattle.audit.proofs.Gather.{Gathering}
use Rattle.audit.proofs.by_tracks.Given as goal

abbrev pub invariant-loop-numbers : goal.invariant-loop-numbers
invariant-loop-numbers l =
    Gathering l.file (boxes l.starts l.sizes l.kinds l.parents l.placed) l.n (rows_of l.runs l.rows) (moofs_in l.file (rows_of l.runs l.rows) (moof-rows.rows_of l.moofs l.many)) l.numbers l.tracks l.count l.trak

abbrev pub decreases-loop-numbers : goal.decreases-loop-numbers
decreases-loop-numbers l =
    4 - l.count
