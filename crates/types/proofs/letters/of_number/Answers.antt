use Rattle.numbers.proofs.Laws.{four}
use Rattle.types.proofs.letters.of_number.Goals as goal

pub returns : goal.returns
returns c =
    four c.args.n
