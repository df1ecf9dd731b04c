use native.Mathlib.Omega.{arith}
use mathlib.Core.Path.{refl, sym, ◌∙◌}
use Prim.Native.Nat.{◌-◌}
use Rattle.lanes.proofs.Cases.{run-used, fill_end, fill_none, fill_one}
use Rattle.lanes.proofs.run_fill.Goals as goal

pub loop-i-preserved : goal.loop-i-preserved
loop-i-preserved c =
    fill_none _ _ _ _ c.loop-i-test.true c.entry-e.ensures (omega arith) ∙ c.loop-i.invariant

pub returns-then-e-ne0-clause-same : goal.returns-then-e-ne0-clause-same
returns-then-e-ne0-clause-same c =
    fill_one _ _ _ _ c.loop-i-test.true c.entry-e.ensures ∙ c.loop-i.invariant

pub returns-clause-same : goal.returns-clause-same
returns-clause-same c =
    sym (run-used _ _ refl) ∙ c.loop-i.invariant

pub returns-clause-ready : goal.returns-clause-ready
returns-clause-ready c =
    λ z. fill_end _ _ _ c.loop-i-test.false ∙ run-used _ _ refl
