use mathlib.Core.Path.{◌≡◌}
use Prim.Native.Nat.{◌-◌, ◌≤◌}
use Rattle.places.specs.Kinds.{moov, trak}
use Rattle.kin.specs.Kin.{boxes}
use Rattle.needed.specs.Needed.{each, in_trak}
use Rattle.needed.proofs.traks.in_traks.Given as goal

abbrev pub invariant-loop-j : goal.invariant-loop-j
invariant-loop-j l =
    (l.j ≤ l.n) × (each (boxes l.starts l.sizes l.kinds l.parents l.placed) l.j trak l.moov (in_trak (boxes l.starts l.sizes l.kinds l.parents l.placed) l.n) ≡ 0)

abbrev pub decreases-loop-j : goal.decreases-loop-j
decreases-loop-j l =
    l.n - l.j
