use mathlib.Core.Path.{refl}
use Rattle.lanes.proofs.Cases.{shift_from, shift-filled}
use Rattle.lanes.proofs.shift_next.Goals as goal

pub returns-then-c-eq0-clause-value : goal.returns-then-c-eq0-clause-value
returns-then-c-eq0-clause-value c =
    (shift-filled _ _ _ c.in-Some.is _ _ _ c.shift_of.ensures c.if-c-eq0.true c.run_fill-f.ensures.same c.run_fill-f.ensures.ready).0

pub returns-then-c-eq0-clause-rest : goal.returns-then-c-eq0-clause-rest
returns-then-c-eq0-clause-rest c =
    (shift-filled _ _ _ c.in-Some.is _ _ _ c.shift_of.ensures c.if-c-eq0.true c.run_fill-f.ensures.same c.run_fill-f.ensures.ready).1

pub returns-clause-value : goal.returns-clause-value
returns-clause-value c =
    (shift_from _ _ _ c.in-Some.is _ _ _ c.shift_of-2.ensures (λ z. absurd (c.if-c-eq0.false z)) refl).0

pub returns-clause-rest : goal.returns-clause-rest
returns-clause-rest c =
    (shift_from _ _ _ c.in-Some.is _ _ _ c.shift_of-2.ensures (λ z. absurd (c.if-c-eq0.false z)) refl).1
