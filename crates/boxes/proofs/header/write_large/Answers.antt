use Prim.Native.Nat.{◌+◌}
use mathlib.Core.Path.{ap, ◌∙◌}
use mathlib.Core.List.{◌++◌}
use native.Mathlib.Omega.{arith}
use Rattle.numbers.specs.Number.{bytes}
use Rattle.put.specs.Put.{placed}
use Rattle.boxes.specs.Header.{large_bytes}
use Rattle.boxes.proofs.Written.{two}
use Rattle.numbers.proofs.Laws.{bytes-join}
use Rattle.put.proofs.Placed.{no-sum, no_room}
use Rattle.boxes.proofs.header.write_large.Goals as goal

pub returns : goal.returns
returns c =
    two (0x1_0000_0000 + c.args.kind) c.args.size c.args.at c.args.out.now c.write.new.buf c.write-2.new.buf _ _ (omega arith) (omega arith) (omega arith) c.write.ensures c.write-2.ensures ∙ ap (λ s. placed (s ++ bytes 8 c.args.size) 16 c.args.at c.args.out.now) (bytes-join 4 4 1 c.args.kind (omega arith))
