use mathlib.Core.Path.{refl, ap, ◌∙◌}
use Prim.Native.Nat.{◌-◌}
use native.Mathlib.Omega.{arith}
use Rattle.std.specs.Prelude.{Err}
use Rattle.std.proofs.lemmas.Result.{err_from_is_err_and}
use Rattle.kin.specs.Kin.{boxes}
use Rattle.moofs.specs.Moofs.{fragments_of}
use Rattle.moofs.specs.Walk.{plan_of}
use Rattle.moofs.proofs.Filling.{starts, goes_on, is-refused, counts, stores, stores-none}
use Rattle.moofs.proofs.walk.Goals as goal

pub loop-j-init : goal.loop-j-init
loop-j-init c =
    starts c.args.s.now (boxes c.args.starts.now c.args.sizes.now c.args.kinds.now c.args.parents.now c.args.placed.now) c.args.n _ _ _ _ _ c.rows-end.ensures refl refl refl refl

pub turn-requires : goal.turn-requires
turn-requires c =
    (omega (arith, c.loop-j-test.true, c.rows-end.ensures), c.loop-j.invariant.few-runs, c.loop-j.invariant.few-moofs)

pub shape_of-runs-in_err-state : goal.shape_of-runs-in_err-state
shape_of-runs-in_err-state c =
    (is-refused c.args.s.now (boxes c.args.starts.now c.args.sizes.now c.args.kinds.now c.args.parents.now c.args.placed.now) c.args.n _ (plan_of (fragments_of c.args.s.now (boxes c.args.starts.now c.args.sizes.now c.args.kinds.now c.args.parents.now c.args.placed.now) c.args.n)) c.args.runs.now c.args.moofs.now c.loop-j.state c.loop-j.j _ _ c.loop-j.invariant _ _ _ _ c.loop-j-test.true c.turn.ensures c.in_err-state.was).1

pub shape_of-moofs-in_err-state : goal.shape_of-moofs-in_err-state
shape_of-moofs-in_err-state c =
    (is-refused c.args.s.now (boxes c.args.starts.now c.args.sizes.now c.args.kinds.now c.args.parents.now c.args.placed.now) c.args.n _ (plan_of (fragments_of c.args.s.now (boxes c.args.starts.now c.args.sizes.now c.args.kinds.now c.args.parents.now c.args.placed.now) c.args.n)) c.args.runs.now c.args.moofs.now c.loop-j.state c.loop-j.j _ _ c.loop-j.invariant _ _ _ _ c.loop-j-test.true c.turn.ensures c.in_err-state.was).2

pub returns-in_err-state-clause-count : goal.returns-in_err-state-clause-count
returns-in_err-state-clause-count c =
    let p = err_from_is_err_and c.from_residual.result c.from_residual.ensures.1 in
    p.1 ∙ ap Err p.2 ∙ (is-refused c.args.s.now (boxes c.args.starts.now c.args.sizes.now c.args.kinds.now c.args.parents.now c.args.placed.now) c.args.n _ (plan_of (fragments_of c.args.s.now (boxes c.args.starts.now c.args.sizes.now c.args.kinds.now c.args.parents.now c.args.placed.now) c.args.n)) c.args.runs.now c.args.moofs.now c.loop-j.state c.loop-j.j _ _ c.loop-j.invariant _ _ _ _ c.loop-j-test.true c.turn.ensures c.in_err-state.was).0

pub returns-in_err-state-clause-tables : goal.returns-in_err-state-clause-tables
returns-in_err-state-clause-tables c =
    stores-none _ (plan_of (fragments_of c.args.s.now (boxes c.args.starts.now c.args.sizes.now c.args.kinds.now c.args.parents.now c.args.placed.now) c.args.n)) _ _ _ _ (is-refused c.args.s.now (boxes c.args.starts.now c.args.sizes.now c.args.kinds.now c.args.parents.now c.args.placed.now) c.args.n _ (plan_of (fragments_of c.args.s.now (boxes c.args.starts.now c.args.sizes.now c.args.kinds.now c.args.parents.now c.args.placed.now) c.args.n)) c.args.runs.now c.args.moofs.now c.loop-j.state c.loop-j.j _ _ c.loop-j.invariant _ _ _ _ c.loop-j-test.true c.turn.ensures c.in_err-state.was).0

pub loop-j-preserved : goal.loop-j-preserved
loop-j-preserved c =
    goes_on c.args.s.now (boxes c.args.starts.now c.args.sizes.now c.args.kinds.now c.args.parents.now c.args.placed.now) c.args.n _ (plan_of (fragments_of c.args.s.now (boxes c.args.starts.now c.args.sizes.now c.args.kinds.now c.args.parents.now c.args.placed.now) c.args.n)) c.args.runs.now c.args.moofs.now c.loop-j.state c.loop-j.j _ _ c.loop-j.invariant _ _ _ _ c.loop-j-test.true c.turn.ensures c.in_ok-state.was

pub shape_of-runs : goal.shape_of-runs
shape_of-runs c =
    c.loop-j.invariant.same_runs

pub shape_of-moofs : goal.shape_of-moofs
shape_of-moofs c =
    c.loop-j.invariant.same-moofs

pub returns-clause-count : goal.returns-clause-count
returns-clause-count c =
    counts c.args.s.now (boxes c.args.starts.now c.args.sizes.now c.args.kinds.now c.args.parents.now c.args.placed.now) c.args.n _ (plan_of (fragments_of c.args.s.now (boxes c.args.starts.now c.args.sizes.now c.args.kinds.now c.args.parents.now c.args.placed.now) c.args.n)) c.args.runs.now c.args.moofs.now c.loop-j.state c.loop-j.j _ _ c.loop-j.invariant c.loop-j-test.false

pub returns-clause-tables : goal.returns-clause-tables
returns-clause-tables c =
    stores c.args.s.now (boxes c.args.starts.now c.args.sizes.now c.args.kinds.now c.args.parents.now c.args.placed.now) c.args.n _ (plan_of (fragments_of c.args.s.now (boxes c.args.starts.now c.args.sizes.now c.args.kinds.now c.args.parents.now c.args.placed.now) c.args.n)) c.args.runs.now c.args.moofs.now c.loop-j.state c.loop-j.j _ _ c.loop-j.invariant c.loop-j-test.false
