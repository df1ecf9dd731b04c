use mathlib.Core.Path.{refl, ap, ◌∙◌}
use Prim.Native.Nat.{◌-◌}
use native.Mathlib.Omega.{arith}
use borrow.Author.Rules.{rules}
use lib.ListN.{length}
use lib.Seq.{length-sets}
use Rattle.numbers.proofs.Chain.{by-true, by-false}
use Rattle.layout.proofs.Cases.{width_of, laid, too-low, too-high, further, all_laid}
use Rattle.layout_write.proofs.code.Goals as goal
use Rattle.layout_write.proofs.code.Goals.{else-r, then-r}

pub returns-then-x-r : goal.returns-then-x-r
returns-then-x-r c =
    (c.uncoded.ensures ∙ too-low c.args.row _ c.args.values c.loop-i.i c.loop-i.slot c.loop-i.version c.loop-i.flags c.loop-i.bytes c.loop-i.len c.rule_of-r.result c.choose-x.result (search rules) c.rule_of-r.ensures c.choose-x.ensures c.if-x-r.true ∙ c.loop-i.invariant.0, omega (arith, ap (λ r. r.len) c.uncoded.ensures))

pub returns-then-r-x : goal.returns-then-r-x
returns-then-r-x c =
    (c.uncoded-then-r-x.ensures ∙ too-high c.args.row _ c.args.values c.loop-i.i c.loop-i.slot c.loop-i.version c.loop-i.flags c.loop-i.bytes c.loop-i.len c.rule_of-r.result c.choose-x.result (search rules) c.rule_of-r.ensures c.choose-x.ensures c.if-x-r.false c.if-r-x.true ∙ c.loop-i.invariant.0, omega (arith, ap (λ r. r.len) c.uncoded-then-r-x.ensures))

pub overflow_add-len : goal.overflow_add-len
overflow_add-len c =
    let h = width_of _ _ _ _ c.rule_of-r.ensures in omega arith

pub loop-i-preserved : goal.loop-i-preserved
loop-i-preserved c =
    let h = width_of _ _ _ _ c.rule_of-r.ensures in
    let stored = laid _ _ _ _ _ c.rule_of-r.ensures c.if-r-x.false c.loop-i.len c.loop-i.bytes _ _ (omega (arith, c.loop-i.invariant.4)) c.number.ensures in (
      further c.args.row _ c.args.values c.loop-i.i c.loop-i.slot c.loop-i.version c.loop-i.flags c.loop-i.bytes c.loop-i.len c.rule_of-r.result c.choose-x.result (search rules) c.rule_of-r.ensures c.choose-x.ensures c.if-x-r.false c.if-r-x.false _ _ _ _ stored
          (elim c.if-r.branch [ then-r w ↦ by-true _ _ _ _ w.if-r.true w.slot-is | else-r w ↦ by-false _ _ _ _ w.if-r.false w.slot-is ])
          c.choose-version.ensures c.choose-flags.ensures ∙ c.loop-i.invariant.0,
      omega arith,
      elim c.if-r.branch [ then-r w ↦ omega arith | else-r w ↦ omega arith ],
      omega arith,
      ap length stored ∙ simp length-sets c.loop-i.invariant.4,
    )

pub returns : goal.returns
returns c =
    (all_laid c.args.row c.args.values c.loop-i.i c.loop-i.slot c.loop-i.version c.loop-i.flags c.loop-i.bytes c.loop-i.len (omega arith) ∙ c.loop-i.invariant.0, omega arith)
