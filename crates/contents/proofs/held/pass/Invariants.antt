use mathlib.Core.Path.{◌≡◌}
use Prim.Native.Nat.{◌+◌, ◌-◌, ◌≤◌}
use Rattle.kin.specs.Before.{sum}
use Rattle.kin.specs.Kin.{boxes}
use Rattle.contents.specs.Held.{sample_limit, run_of}
use Rattle.contents.proofs.held.pass.Given as goal

abbrev pub invariant-loop-j : goal.invariant-loop-j
invariant-loop-j l =
    (l.j ≤ l.i) × (l.all ≤ sample_limit) × (l.all ≡ sum (run_of l.s (boxes l.starts l.sizes l.kinds l.parents l.placed) l.n l.track) l.j + l.count)

abbrev pub decreases-loop-j : goal.decreases-loop-j
decreases-loop-j l =
    l.i - l.j
