use Rattle.lanes.proofs.Cases.{place-past, place_end, place-next}
use Prim.Native.Nat.{◌-◌}
use mathlib.Core.Path.{refl, ◌∙◌}
use Rattle.lanes.proofs.place_ready.Goals as goal

pub loop-left-preserved : goal.loop-left-preserved
loop-left-preserved c =
    λ ss. place-next c.args.file.now _ c.args.t c.loop-left.left c.loop-left.at c.loop-left.chunk c.loop-left.runs _ c.run_ready-r.ensures.same _ _ c.loop-left-test.true c.if-t-chunk.false c.if-r-eq0.false c.offset_at-at.ensures c.run_after-runs.ensures ss ∙ c.loop-left.invariant ss

pub returns-then-t-chunk-clause-ready : goal.returns-then-t-chunk-clause-ready
returns-then-t-chunk-clause-ready c =
    let s = place-past _ _ _ _ _ _ _ c.loop-left-test.true c.if-t-chunk.true in s.1

pub returns-then-r-eq0-clause-same : goal.returns-then-r-eq0-clause-same
returns-then-r-eq0-clause-same c =
    let s = place_end c.args.file.now _ c.args.t c.loop-left.left c.loop-left.at c.loop-left.chunk c.loop-left.runs _ c.run_ready-r.ensures.same c.loop-left-test.true c.run_ready-r.ensures.ready c.if-r-eq0.true in λ ss. s.0 ss ∙ c.loop-left.invariant ss

pub returns-then-r-eq0-clause-ready : goal.returns-then-r-eq0-clause-ready
returns-then-r-eq0-clause-ready c =
    let s = place_end c.args.file.now _ c.args.t c.loop-left.left c.loop-left.at c.loop-left.chunk c.loop-left.runs _ c.run_ready-r.ensures.same c.loop-left-test.true c.run_ready-r.ensures.ready c.if-r-eq0.true in s.1
