use mathlib.Core.Path.{refl, sym, ◌∙◌}
use native.Mathlib.Omega.{arith}
use Rattle.sampletable.proofs.Puts.{table_none, table-some, before-room, entries-room}
use Rattle.sampletable.proofs.put_table.Goals as goal

pub put_before-begin-requires : goal.put_before-begin-requires
put_before-begin-requires c =
    before-room c.args.table c.args.timescale c.args.records.now c.args.n c.requires.0 c.args.out.now c.args.at c.listed-bytes.result (sym c.there.ensures ∙ c.if-not-there.false) c.requires.1 c.listed-bytes.ensures

pub returns : goal.returns
returns c =
    table-some c.args.table c.args.timescale c.args.records.now c.args.n c.requires.0 c.args.out.now _ _ _ _ c.args.at c.put_before-begin.result c.listed-bytes.result _ c.entries.result (sym c.there.ensures ∙ c.if-not-there.false) c.requires.1 c.put_before-begin.ensures c.listed-bytes.ensures refl refl c.entries.ensures refl
