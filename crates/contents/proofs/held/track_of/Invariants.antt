use mathlib.Core.Path.{◌≡◌}
use Prim.Native.Nat.{◌-◌}
use Rattle.kin.specs.Kin.{boxes}
use Rattle.contents.specs.Held.{track_from}
use Rattle.contents.proofs.held.track_of.Given as goal

abbrev pub invariant-loop-k : goal.invariant-loop-k
invariant-loop-k l =
    track_from (l.end - l.k) l.s (boxes l.starts l.sizes l.kinds l.parents l.placed) l.p l.k ≡ track_from (l.end - l.p) l.s (boxes l.starts l.sizes l.kinds l.parents l.placed) l.p l.p

abbrev pub decreases-loop-k : goal.decreases-loop-k
decreases-loop-k l =
    l.end - l.k
