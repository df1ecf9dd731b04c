use Rattle.lanes.proofs.Heads.{no_size, no-time, no_place, gives}
use Rattle.lanes.proofs.next.Goals as goal

pub returns-then-sizes-done : goal.returns-then-sizes-done
returns-then-sizes-done c =
    no_size _ c.args.track c.args.lane c.if-sizes-done.true

pub returns-then-runs-eq0 : goal.returns-then-runs-eq0
returns-then-runs-eq0 c =
    no-time _ c.args.track c.args.lane c.if-sizes-done.false _ c.size_at-size.ensures _ c.pairs.ensures _ c.run_ready-runs.ensures.same c.if-runs-eq0.true c.run_ready-runs.ensures.ready

pub returns-then-p-eq0 : goal.returns-then-p-eq0
returns-then-p-eq0 c =
    no_place _ c.args.track c.args.lane c.if-sizes-done.false _ c.size_at-size.ensures _ c.pairs.ensures _ c.run_ready-runs.ensures.same c.if-runs-eq0.false _ c.groups.ensures _ c.place_ready-p.ensures.same c.if-p-eq0.true c.place_ready-p.ensures.ready

pub returns : goal.returns
returns c =
    gives _ c.args.track c.args.lane c.if-sizes-done.false _ c.size_at-size.ensures _ c.pairs.ensures _ c.run_ready-runs.ensures.same c.if-runs-eq0.false _ c.groups.ensures _ c.place_ready-p.ensures.same c.if-p-eq0.false _ c.run_after-rest.ensures c.give.result c.give.ensures
