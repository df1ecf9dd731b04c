use Rattle.std.proofs.Common.{◌≡◌, ◌-◌, drop}
use Rattle.runtable.specs.Table.{rows_of}
use Rattle.follows.specs.Follows.{numbers_in}
use Rattle.follows.specs.Walk.{walks, after_tracks}
use Rattle.follows.proofs.in_moof.Given as goal

abbrev pub invariant-loop-k : goal.invariant-loop-k
invariant-loop-k l =
    after_tracks l.file l.at (drop l.from (rows_of l.runs l.to)) l.k (drop l.k (numbers_in l.numbers l.count)) (walks l.all l.so_far) ≡ after_tracks l.file l.at (drop l.from (rows_of l.runs l.to)) 0 (numbers_in l.numbers l.count) (walks l.initial.all l.initial.so_far)

abbrev pub decreases-loop-k : goal.decreases-loop-k
decreases-loop-k l =
    l.count - l.k
