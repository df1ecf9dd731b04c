use Rattle.tree.specs.Tables.{tables}
use Rattle.tree.proofs.All.{refused, asks-a, asks-b, asks-c, asks-d, asks-e, asks-f, all}
use Rattle.whole_tree.proofs.tree.Goals as goal

pub copy-requires : goal.copy-requires
copy-requires c =
    asks-a c.args.s.now c.scan.new.starts c.scan.new.sizes c.scan.new.kinds c.scan.new.parents c.scan.new.depths c.scan.new.placed c.scan.result c.scan.ensures _ c.in-Whole.is

pub copy-requires-in-Whole : goal.copy-requires-in-Whole
copy-requires-in-Whole c =
    asks-b c.args.s.now c.scan.new.starts c.scan.new.sizes c.scan.new.kinds c.scan.new.parents c.scan.new.depths c.scan.new.placed c.scan.result c.scan.ensures _ c.in-Whole.is

pub copy-requires-in-Whole-2 : goal.copy-requires-in-Whole-2
copy-requires-in-Whole-2 c =
    asks-c c.args.s.now c.scan.new.starts c.scan.new.sizes c.scan.new.kinds c.scan.new.parents c.scan.new.depths c.scan.new.placed c.scan.result c.scan.ensures _ c.in-Whole.is

pub copy-requires-in-Whole-3 : goal.copy-requires-in-Whole-3
copy-requires-in-Whole-3 c =
    asks-d c.args.s.now c.scan.new.starts c.scan.new.sizes c.scan.new.kinds c.scan.new.parents c.scan.new.depths c.scan.new.placed c.scan.result c.scan.ensures _ c.in-Whole.is

pub copy-requires-in-Whole-4 : goal.copy-requires-in-Whole-4
copy-requires-in-Whole-4 c =
    asks-e c.args.s.now c.scan.new.starts c.scan.new.sizes c.scan.new.kinds c.scan.new.parents c.scan.new.depths c.scan.new.placed c.scan.result c.scan.ensures _ c.in-Whole.is

pub copy-requires-in-Whole-5 : goal.copy-requires-in-Whole-5
copy-requires-in-Whole-5 c =
    asks-f c.args.s.now c.scan.new.starts c.scan.new.sizes c.scan.new.kinds c.scan.new.parents c.scan.new.depths c.scan.new.placed c.scan.result c.scan.ensures _ c.in-Whole.is

pub returns-in-Whole : goal.returns-in-Whole
returns-in-Whole c =
    all c.args.s.now c.scan.new.starts c.scan.new.sizes c.scan.new.kinds c.scan.new.parents c.scan.new.depths c.scan.new.placed c.scan.result c.scan.ensures _ c.in-Whole.is c.args.starts.now c.args.sizes.now c.args.kinds.now c.args.parents.now c.args.depths.now c.args.placed.now c.copy.new.to c.copy-in-Whole.new.to c.copy-in-Whole-2.new.to c.copy-in-Whole-3.new.to c.copy-in-Whole-4.new.to c.copy-in-Whole-5.new.to c.copy.ensures c.copy-in-Whole.ensures c.copy-in-Whole-2.ensures c.copy-in-Whole-3.ensures c.copy-in-Whole-4.ensures c.copy-in-Whole-5.ensures
