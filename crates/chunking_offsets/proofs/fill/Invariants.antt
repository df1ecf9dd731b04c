use Prim.Native.Nat.{◌-◌}
use lib.ListN.{drop}
use Rattle.columns.proofs.Written.{Writing}
use Rattle.chunking.specs.Chunking.{chunks_from, chunks_in}
use Rattle.chunking.specs.Entries.{offsets_by}
use Rattle.chunking.proofs.Fills.{pieces}
use Rattle.chunking_offsets.proofs.fill.Given as goal

abbrev pub invariant-loop-i : goal.invariant-loop-i
invariant-loop-i l =
    Writing (offsets_by l.wide (chunks_in l.timescale l.records l.n)) (offsets_by l.wide (chunks_from l.timescale l.chunk (drop l.i (pieces l.records l.n)))) l.initial.out l.out l.k

abbrev pub decreases-loop-i : goal.decreases-loop-i
decreases-loop-i l =
    l.n - l.i
