use Rattle.chunking.proofs.Cases.{offset-wide, offset-narrow}
use Rattle.chunking_offsets.proofs.put_offset.Goals as goal

pub returns-then-wide : goal.returns-then-wide
returns-then-wide c =
    offset-wide c.args.wide c.args.at c.args.out.now c.args.k _ _ c.if-wide.true c.word.ensures c.word-then-wide.ensures

pub returns : goal.returns
returns c =
    offset-narrow c.args.wide c.args.at c.args.out.now c.args.k _ c.if-wide.false c.word-2.ensures
