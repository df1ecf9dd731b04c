use Rattle.std.specs.Prelude.{Ok, Err}
use Rattle.esfields.proofs.Cases.{there-is, there-not}
use Rattle.esfields.proofs.u8_if.Goals as goal

pub returns : goal.returns
returns c =
    there-not Err Ok 1 c.args.s.now c.args.at c.args.there c.if-there.false c.requires
