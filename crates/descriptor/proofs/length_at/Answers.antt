use Rattle.std.specs.Prelude.{Ok}
use mathlib.Core.Path.{◌≡◌, refl, ap, ◌∙◌}
use Prim.Native.Nat.{◌+◌, ◌-◌, ◌*◌, ◌^◌, ◌≤◌}
use native.Mathlib.Numerals.{add-one}
use native.Mathlib.Omega.{arith}
use Rattle.descriptor.specs.Descriptor.{length_from}
use Rattle.descriptor.proofs.Cases.{too_long, cut, last, more, grows, under}
use Rattle.descriptor.proofs.length_at.Goals as goal
use Rattle.descriptor.specs.Descriptor.{length_record}

pub returns-then-s-p : goal.returns-then-s-p
returns-then-s-p c =
    cut c.args.at c.loop-i.value c.args.s.now c.loop-i.p (4 - c.loop-i.i) (3 - c.loop-i.i) (omega arith) (omega arith) ∙ c.loop-i.invariant.0

pub overflow_mul-value : goal.overflow_mul-value
overflow_mul-value c =
    let u : 128 ^ c.loop-i.i ≤ 128 ^ 3 = under c.loop-i.i 3 (omega arith) in omega arith

pub overflow_add-value : goal.overflow_add-value
overflow_add-value c =
    let u : 128 ^ c.loop-i.i ≤ 128 ^ 3 = under c.loop-i.i 3 (omega arith) in omega arith

pub returns-then-byte-lt128 : goal.returns-then-byte-lt128
returns-then-byte-lt128 c =
    ap (λ x. Ok (length_record (c.loop-i.value * 128 + c.low.result) x)) (add-one c.loop-i.p) ∙ last c.args.at c.loop-i.value c.args.s.now c.loop-i.p (4 - c.loop-i.i) (3 - c.loop-i.i) (omega arith) (omega arith) _ (ap (λ x. c.loop-i.value * 128 + x) c.low.ensures.0) c.if-byte-lt128.true ∙ c.loop-i.invariant.0

pub loop-i-preserved : goal.loop-i-preserved
loop-i-preserved c =
    (ap (λ x. length_from c.args.at x (c.loop-i.value * 128 + c.low.result) c.args.s.now (c.loop-i.p + 1)) (let e : 4 - (c.loop-i.i + 1) ≡ 3 - c.loop-i.i = omega arith in e) ∙ ap (λ x. length_from c.args.at (3 - c.loop-i.i) (c.loop-i.value * 128 + c.low.result) c.args.s.now x) (add-one c.loop-i.p) ∙ more c.args.at c.loop-i.value c.args.s.now c.loop-i.p (4 - c.loop-i.i) (3 - c.loop-i.i) (omega arith) (omega arith) (c.loop-i.value * 128 + c.low.result) (ap (λ x. c.loop-i.value * 128 + x) c.low.ensures.0) c.if-byte-lt128.false ∙ c.loop-i.invariant.0, rw add-one (grows c.loop-i.i c.loop-i.value c.low.result c.loop-i.invariant.1 c.low.ensures.1), omega arith)

pub returns : goal.returns
returns c =
    too_long c.args.at c.loop-i.value c.args.s.now c.loop-i.p (4 - c.loop-i.i) (omega arith) ∙ c.loop-i.invariant.0
