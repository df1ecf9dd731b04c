use mathlib.Core.Path.{◌∙◌}
use native.Mathlib.Omega.{arith}
use Rattle.boxes.proofs.Written.{as_one}
use Rattle.boxes.proofs.header.write_plain.Goals as goal

pub returns : goal.returns
returns c =
    c.write.ensures ∙ as_one 4 4 c.args.size c.args.kind c.args.at c.args.out.now (omega arith) (omega arith) (omega arith)
