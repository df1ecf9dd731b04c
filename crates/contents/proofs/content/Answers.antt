use Rattle.std.specs.Prelude.{Err}
use mathlib.Core.Path.{sym, ap, ◌∙◌}
use lib.ListN.{get_or, take, drop}
use Rattle.readers.specs.Readers.{fault_of}
use Rattle.contents.specs.Contents.{moved_all}
use Rattle.contents.proofs.Helds.{no_reader}
use Rattle.contents.proofs.content.Goals as goal

pub returns-then-kind-gt4294967295 : goal.returns-then-kind-gt4294967295
returns-then-kind-gt4294967295 c =
    ap (moved_all (get_or c.args.starts.now c.args.i 0)) (no_reader (get_or c.args.kinds.now c.args.i 0) (take (get_or c.args.sizes.now c.args.i 0) (drop (get_or c.args.starts.now c.args.i 0) c.args.s.now)) c.if-kind-gt4294967295.true)
