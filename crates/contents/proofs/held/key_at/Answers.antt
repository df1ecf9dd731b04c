use mathlib.Core.Path.{ap, ◌∙◌}
use lib.ListN.{get_or, take, drop}
use Rattle.keys.specs.Key.{key_of}
use Rattle.contents.proofs.Helds.{no_key}
use Rattle.contents.proofs.held.key_at.Goals as goal

pub returns-then-kind-gt4294967295 : goal.returns-then-kind-gt4294967295
returns-then-kind-gt4294967295 c =
    no_key (get_or c.args.kinds.now c.args.j 0) (take (get_or c.args.sizes.now c.args.j 0) (drop (get_or c.args.starts.now c.args.j 0) c.args.s.now)) c.if-kind-gt4294967295.true
