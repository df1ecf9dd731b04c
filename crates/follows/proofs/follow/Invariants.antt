use Rattle.std.proofs.Common.{◌≡◌, ◌-◌, drop}
use Rattle.runtable.specs.Table.{rows_of}
use Rattle.mooftable.specs.Table as table
use Rattle.follows.specs.Follows.{numbers_in}
use Rattle.follows.specs.Walk.{walks, after_moofs, due_by}
use Rattle.follows.proofs.follow.Given as goal

abbrev pub invariant-loop-i : goal.invariant-loop-i
invariant-loop-i l =
    (after_moofs l.file (rows_of l.runs l.rows) (numbers_in l.numbers l.many) (due_by l.some l.due) (drop l.i (table.rows_of l.moofs l.n)) (walks l.befores l.told)).told ≡ (after_moofs l.file (rows_of l.runs l.rows) (numbers_in l.numbers l.many) (due_by l.initial.some l.initial.due) (table.rows_of l.moofs l.n) (walks l.initial.befores l.initial.told)).told

abbrev pub decreases-loop-i : goal.decreases-loop-i
decreases-loop-i l =
    l.n - l.i
