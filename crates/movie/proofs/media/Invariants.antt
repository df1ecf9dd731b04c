use mathlib.Core.Path.{◌≡◌}
use Prim.Native.Nat.{◌+◌, ◌-◌, ◌<◌, ◌^◌}
use lib.ListN.{length}
use Rattle.kin.specs.Kin.{boxes}
use Rattle.payloads.specs.Payloads.{payloads_from}
use Rattle.verdicts.specs.Sweep.{bytes}
use Rattle.movie.proofs.media.Given as goal

abbrev pub invariant-loop-from : goal.invariant-loop-from
invariant-loop-from l =
    (l.sum < 2 ^ 64) × (l.sum + bytes (payloads_from l.file (boxes l.starts l.sizes l.kinds l.parents l.placed) l.n l.i) ≡ bytes (payloads_from l.file (boxes l.starts l.sizes l.kinds l.parents l.placed) l.n 0))

abbrev pub decreases-loop-from : goal.decreases-loop-from
decreases-loop-from l =
    length (payloads_from l.file (boxes l.starts l.sizes l.kinds l.parents l.placed) l.n l.i)
