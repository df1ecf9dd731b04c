use mathlib.Core.Path.{sym, ◌∙◌}
use native.Mathlib.Omega.{arith}
use Rattle.avcc.proofs.Puts.{sounds, unsound, too_long, too_small, content-in, all-put}
use Rattle.avcc.proofs.write.Goals as goal

pub returns-then-total-gt4294967295 : goal.returns-then-total-gt4294967295
returns-then-total-gt4294967295 c =
    too_long c.args.avcc c.args.sps_list.now c.args.pps_list.now c.args.extension.now c.args.out.now (sym c.is_sound.ensures ∙ c.if-not-is_sound.false) _ _ _ c.capped.ensures c.capped-lists.ensures c.capped-total.ensures c.if-total-gt4294967295.true

pub returns-then-out-total : goal.returns-then-out-total
returns-then-out-total c =
    too_small c.args.avcc c.args.sps_list.now c.args.pps_list.now c.args.extension.now c.args.out.now (sym c.is_sound.ensures ∙ c.if-not-is_sound.false) _ _ _ c.capped.ensures c.capped-lists.ensures c.capped-total.ensures c.if-total-gt4294967295.false c.if-out-total.true

pub returns : goal.returns
returns c =
    all-put c.args.avcc c.args.sps_list.now c.args.pps_list.now c.args.extension.now c.args.out.now (sym c.is_sound.ensures ∙ c.if-not-is_sound.false) _ _ _ c.capped.ensures c.capped-lists.ensures c.capped-total.ensures c.if-total-gt4294967295.false c.if-out-total.false _ _ _ c.write.ensures c.put_content.ensures
