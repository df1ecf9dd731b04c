use Rattle.lanes.proofs.Heads.{over-end, over-time, takes}
use mir.Facts.{to_z-of_z}
use mir.Syntax.{w64}
use mathlib.Core.Path.{◌∙◌}
use native.Mathlib.Omega.{arith}
use Rattle.lanes.proofs.give.Goals as goal

pub returns-then-p-wide : goal.returns-then-p-wide
returns-then-p-wide c =
    over-end _ c.args.track c.args.lane _ _ _ c.args.times c.args.p (omega arith)

pub returns-then-time-ge-TIME_BOUND : goal.returns-then-time-ge-TIME_BOUND
returns-then-time-ge-TIME_BOUND c =
    over-time _ c.args.track c.args.lane _ _ _ c.args.times c.args.p c.if-time-ge-TIME_BOUND.true

pub returns : goal.returns
returns c =
    takes _ c.args.track c.args.lane _ _ _ c.args.times c.args.p _ _ _ _ _ _ (omega arith) c.if-time-ge-TIME_BOUND.false c.requires.0 (omega arith) c.shift_next-shift.ensures.value c.shift_next-shift.ensures.rest c.mark_ready-ready.ensures.same c.mark_ready-ready.ensures.ready c.sync_at-sync.ensures c.unless_it_is.ensures (to_z-of_z {w = w64} {z = c.as_signed-composition.result} (record { sfits = c.as_signed-composition.type_inv }) ∙ c.as_signed-composition.ensures)
