use mathlib.Core.Path.{◌≡◌, refl, sym, ap, ◌∙◌}
use Prim.Native.Nat.{◌+◌, ◌-◌, ◌*◌, ◌^◌, ◌≤◌, ◌<◌}
use native.Mathlib.Numerals.{add-one}
use native.Mathlib.Omega.{arith}
use Rattle.asc.specs.Config.{bits_of}
use Rattle.asc.proofs.Cases.{snoc, grows, under}
use Rattle.asc.proofs.bits.Goals as goal

pub loop-k-init : goal.loop-k-init
loop-k-init c =
    (unfold bits_of in refl, omega arith, omega arith)

pub loop-k-preserved : goal.loop-k-preserved
loop-k-preserved c =
    (ap (λ x. x * 2 + c.bit.result) c.loop-k.invariant.0 ∙ ap (λ x. bits_of c.loop-k.k c.args.s.now c.args.i * 2 + x) c.bit.ensures.0 ∙ sym (snoc c.loop-k.k c.args.s.now c.args.i) ∙ ap (λ x. bits_of x c.args.s.now c.args.i) (sym (add-one c.loop-k.k)), rw add-one (grows c.loop-k.k c.loop-k.value c.bit.result c.loop-k.invariant.1 c.bit.ensures.1), omega arith)
