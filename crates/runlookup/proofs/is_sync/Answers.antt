use Rattle.runtable.specs.Table.{rows_of}
use Rattle.runlookup.proofs.Flags.{no-flag-of-0, no_flag, flag-of}
use Rattle.runlookup.proofs.is_sync.Goals as goal

pub returns-then-number-eq0 : goal.returns-then-number-eq0
returns-then-number-eq0 c =
    no-flag-of-0 c.args.file.now (rows_of c.args.table.now c.args.n) c.args.track c.args.number c.if-number-eq0.true

pub returns-in-Missing : goal.returns-in-Missing
returns-in-Missing c =
    no_flag c.args.file.now (rows_of c.args.table.now c.args.n) c.args.track c.args.number c.if-number-eq0.false _ c.place_of.ensures c.in-Missing.is

pub returns-in-At : goal.returns-in-At
returns-in-At c =
    flag-of c.args.file.now (rows_of c.args.table.now c.args.n) c.args.track c.args.number c.if-number-eq0.false _ c.place_of.ensures _ _ _ _ c.in-At.is c.sync_at.ensures
