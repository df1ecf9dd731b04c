use Rattle.std.specs.Prelude.{Err}
use Rattle.std.proofs.lemmas.Result.{err_from_is_err_and}
use mathlib.Core.Path.{ap, ◌∙◌}
use native.Mathlib.Omega.{arith}
use Rattle.descriptor.proofs.Laws.{size-least}
use Rattle.esds_write.proofs.Puts.{absent-empty, absent-full, config-unsound, config-long, config-sized}
use Rattle.esds_write.proofs.decoder_size.Goals as goal

pub returns : goal.returns
returns c =
    config-sized c.args.decoder c.args.info.now _ c.in-Some.is _ c.size.ensures _ c.in_ok-n.was (omega (arith, c.if-n-ge268435456.false)) _ c.length_size.ensures
