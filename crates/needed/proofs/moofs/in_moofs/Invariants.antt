use mathlib.Core.Path.{◌≡◌}
use Prim.Native.Nat.{◌-◌, ◌≤◌}
use Rattle.places.specs.Kinds.{moof}
use Rattle.kin.specs.Kin.{boxes}
use Rattle.needed.specs.Needed.{each, in_moof}
use Rattle.needed.proofs.moofs.in_moofs.Given as goal

abbrev pub invariant-loop-j : goal.invariant-loop-j
invariant-loop-j l =
    (l.j ≤ l.n) × (each (boxes l.starts l.sizes l.kinds l.parents l.placed) l.j moof 0 (in_moof l.s (boxes l.starts l.sizes l.kinds l.parents l.placed) l.n) ≡ 0)

abbrev pub decreases-loop-j : goal.decreases-loop-j
decreases-loop-j l =
    l.n - l.j
