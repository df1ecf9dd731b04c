use Rattle.fragments.proofs.Cases.{lane-one, lane_over, lane-on}
use Rattle.runtable.specs.Table.{rows_of}
use Rattle.fragments.proofs.next.Goals as goal

pub returns-in-One : goal.returns-in-One
returns-in-One c =
    lane-one c.args.file.now (rows_of c.args.table.now c.args.count) c.args.track c.args.lane c.next.result c.next.ensures.sample c.next.ensures.number _ _ c.in-One.is

pub returns-in-Over : goal.returns-in-Over
returns-in-Over c =
    lane_over c.args.file.now (rows_of c.args.table.now c.args.count) c.args.track c.args.lane c.next.result c.next.ensures.sample c.next.ensures.number c.in-Over.is

pub returns-in-End : goal.returns-in-End
returns-in-End c =
    lane-on c.args.file.now (rows_of c.args.table.now c.args.count) c.args.track c.args.lane c.next.result c.next.ensures.sample c.next.ensures.number c.in-End.is _ c.refill.ensures
