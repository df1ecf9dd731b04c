use Rattle.descriptor.proofs.Cases.{ends-here, goes_on}
use Rattle.descriptor_write.proofs.high_bit.Goals as goal

pub returns-then-left-eq0 : goal.returns-then-left-eq0
returns-then-left-eq0 c =
    ends-here c.args.left c.if-left-eq0.true

pub returns-else-left-eq0 : goal.returns-else-left-eq0
returns-else-left-eq0 c =
    goes_on c.args.left c.if-left-eq0.false
