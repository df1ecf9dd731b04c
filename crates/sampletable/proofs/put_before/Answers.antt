use mathlib.Core.Path.{refl, ap, ◌∙◌}
use Prim.Native.Nat.{◌+◌, ◌/◌}
use mathlib.Core.Bool.{Bool}
use Rattle.sampletable.specs.SampleTable.{kind_of, first_of}
use Rattle.sampletable.proofs.Puts.{second-room, before-put}
use Rattle.sampletable.proofs.put_before.Goals as goal

pub put_second-requires : goal.put_second-requires
put_second-requires c =
    second-room c.args.table c.args.n c.args.at (16 + c.behind-more.result + c.args.bytes) c.kind.result 0 c.first-number.result c.args.out.now _ c.put_four.ensures c.requires.4 c.requires.5

pub returns : goal.returns
returns c =
    before-put c.args.table c.args.timescale c.args.records.now c.args.n c.args.out.now _ _ c.args.at _ c.kind.result c.first-number.result c.put_second.result c.behind-more.result c.args.bytes c.put_four.ensures refl c.behind-more.ensures c.requires.1 (c.kind.ensures ∙ ap (kind_of c.args.table) c.wide-wide.ensures) _ refl (c.first-number.ensures ∙ ap (λ (w : Bool). first_of c.args.table w c.args.records.now c.args.n (c.args.bytes / 4)) c.wide-wide.ensures) c.put_second.ensures
