use Prim.Native.Nat.{◌-◌}
use Rattle.runtable.specs.Table.{rows_of}
use Rattle.movie.proofs.Passing.{Passing}
use Rattle.movie.proofs.pass_all.Given as goal

abbrev pub invariant-loop-i : goal.invariant-loop-i
invariant-loop-i l =
    Passing l.fragmented l.file (rows_of l.runs l.rows) l.numbers l.tracks l.count l.i l.total l.first

abbrev pub decreases-loop-i : goal.decreases-loop-i
decreases-loop-i l =
    l.end - l.i
