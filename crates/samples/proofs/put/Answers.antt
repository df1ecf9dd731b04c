use mathlib.Core.Path.{ap, ◌∙◌}
use mir.Facts.{to_z-of_z}
use mir.Syntax.{w64}
use Rattle.samples.specs.Records.{bits_of}
use native.Mathlib.Omega.{arith}
use lib.ListN.{length-set}
use Rattle.samples.proofs.Stored.{no_room, stored}
use borrow.Author.Rules.{rules}
use Rattle.samples.proofs.put.Goals as goal

pub returns-then-out-i : goal.returns-then-out-i
returns-then-out-i c =
    no_room _ _ _ c.if-out-i.true

pub returns : goal.returns
returns c =
    let kept = to_z-of_z {w = w64} {z = c.args.s.composition} (search (c.struct_told-1.given, rules)) in stored _ _ _ _ _ (omega arith) (c.bits-shift.ensures ∙ ap bits_of kept) c.bit-sync.ensures
