use Rattle.std.proofs.Common.{◌≡◌}
use Rattle.tree.specs.Walk.{siblings, kids_of, walk_of}
use Rattle.tree.specs.Tables.{tables, recorded}
use Rattle.tree.proofs.+walk.Given as goal

abbrev pub decreases-walk : goal.decreases-walk
decreases-walk l = l.left

abbrev pub invariant-loop-entries : goal.invariant-loop-entries
invariant-loop-entries l =
    recorded (tables l.starts l.sizes l.kinds l.parents l.depths l.placed) l.n (siblings (kids_of l.left) l.s l.left l.row l.entries l.at l.n)
    ≡ recorded (tables l.fn.starts l.fn.sizes l.fn.kinds l.fn.parents l.fn.depths l.fn.placed) l.fn.count (walk_of l.left l.s l.row l.fn.count)

abbrev pub decreases-loop-entries : goal.decreases-loop-entries
decreases-loop-entries l = l.entries
