use mathlib.Core.Path.{refl, ◌∙◌}
use Prim.Native.Nat.{◌-◌}
use Rattle.strings.proofs.Search.{here, not-here, nowhere}
use Rattle.strings.proofs.text_end.Goals as goal

pub returns-then-b-i-eq0 : goal.returns-then-b-i-eq0
returns-then-b-i-eq0 c =
    here _ _ c.loop-i-test.true c.if-b-i-eq0.true ∙ c.loop-i.invariant

pub loop-i-preserved : goal.loop-i-preserved
loop-i-preserved c =
    not-here _ _ c.loop-i-test.true c.if-b-i-eq0.false ∙ c.loop-i.invariant

pub returns : goal.returns
returns c =
    nowhere _ _ c.loop-i-test.false ∙ c.loop-i.invariant
