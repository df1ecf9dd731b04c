use Prim.Native.Nat.{◌+◌}
use mathlib.Core.Path.{sym, ◌∙◌}
use native.Mathlib.Omega.{arith}
use lib.ListN.{length}
use Rattle.descriptor.proofs.Laws.{size-least}
use Rattle.decoderconfig.proofs.Puts.{sounds, long-with, long-without, no_size, its-size}
use Rattle.decoderconfig.proofs.size.Goals as goal

pub returns-then-config : goal.returns-then-config
returns-then-config c =
    its-size c.args.config c.args.info.now (14 + c.length_size-head.result + length c.args.info.now) (sym c.is_sound.ensures ∙ c.if-not-is_sound.false) (omega (arith, c.length_size-head.ensures, long-with c.args.config c.args.info.now c.if-config.true))

pub returns : goal.returns
returns c =
    its-size c.args.config c.args.info.now 13 (sym c.is_sound.ensures ∙ c.if-not-is_sound.false) (sym (long-without c.args.config c.args.info.now c.if-config.false))
