use mathlib.Core.Path.{sym, ◌∙◌}
use native.Mathlib.Omega.{arith}
use Rattle.emsg.proofs.Puts.{wide-most, by-fixed, sounds, unsound, other-version, long-flags, too_long, too_small, content-in, all-put}
use Rattle.emsg_write.proofs.write.Goals as goal

pub returns-then-emsg-gt1 : goal.returns-then-emsg-gt1
returns-then-emsg-gt1 c =
    other-version c.args.emsg c.args.scheme.now c.args.value.now c.args.message.now c.args.out.now (sym c.is_sound.ensures ∙ c.if-not-is_sound.false) c.if-emsg-gt1.true

pub returns-then-emsg-gt16777215 : goal.returns-then-emsg-gt16777215
returns-then-emsg-gt16777215 c =
    long-flags c.args.emsg c.args.scheme.now c.args.value.now c.args.message.now c.args.out.now (sym c.is_sound.ensures ∙ c.if-not-is_sound.false) c.if-emsg-gt1.false c.if-emsg-gt16777215.true

pub returns-then-total-gt4294967295 : goal.returns-then-total-gt4294967295
returns-then-total-gt4294967295 c =
    too_long c.args.emsg c.args.scheme.now c.args.value.now c.args.message.now c.args.out.now (sym c.is_sound.ensures ∙ c.if-not-is_sound.false) c.if-emsg-gt1.false c.if-emsg-gt16777215.false _ _ _ (by-fixed _ _ _ _ _ c.fixed.ensures c.capped.ensures) c.capped-texts.ensures c.capped-total.ensures c.if-total-gt4294967295.true

pub returns-then-out-total : goal.returns-then-out-total
returns-then-out-total c =
    too_small c.args.emsg c.args.scheme.now c.args.value.now c.args.message.now c.args.out.now (sym c.is_sound.ensures ∙ c.if-not-is_sound.false) c.if-emsg-gt1.false c.if-emsg-gt16777215.false _ _ _ (by-fixed _ _ _ _ _ c.fixed.ensures c.capped.ensures) c.capped-texts.ensures c.capped-total.ensures c.if-total-gt4294967295.false c.if-out-total.true

pub put_content-requires : goal.put_content-requires
put_content-requires c =
    (omega (arith, content-in c.args.emsg c.args.scheme.now c.args.value.now c.args.message.now c.args.out.now (sym c.is_sound.ensures ∙ c.if-not-is_sound.false) c.if-emsg-gt1.false c.if-emsg-gt16777215.false _ _ _ (by-fixed _ _ _ _ _ c.fixed.ensures c.capped.ensures) c.capped-texts.ensures c.capped-total.ensures c.if-total-gt4294967295.false c.if-out-total.false), (sounds c.args.emsg c.args.scheme.now c.args.value.now (sym c.is_sound.ensures ∙ c.if-not-is_sound.false)).time)

pub returns : goal.returns
returns c =
    all-put c.args.emsg c.args.scheme.now c.args.value.now c.args.message.now c.args.out.now (sym c.is_sound.ensures ∙ c.if-not-is_sound.false) c.if-emsg-gt1.false c.if-emsg-gt16777215.false _ _ _ (by-fixed _ _ _ _ _ c.fixed.ensures c.capped.ensures) c.capped-texts.ensures c.capped-total.ensures c.if-total-gt4294967295.false c.if-out-total.false _ _ _ _ _ c.write.ensures c.write-2.ensures c.put_content.ensures
