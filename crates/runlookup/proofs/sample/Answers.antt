use borrow.Author.Rules.{rules}
use Rattle.runlookup.proofs.Places.{none-of-0, no_place, place-one, place-over, place_end}
use Rattle.runtable.specs.Table.{rows_of}
use Rattle.runlookup.proofs.sample.Goals as goal

pub returns-then-number-eq0 : goal.returns-then-number-eq0
returns-then-number-eq0 c =
    none-of-0 c.args.file.now (rows_of c.args.table.now c.args.n) c.args.track c.args.number c.if-number-eq0.true

pub returns-in-Missing : goal.returns-in-Missing
returns-in-Missing c =
    no_place c.args.file.now (rows_of c.args.table.now c.args.n) c.args.track c.args.number c.if-number-eq0.false _ c.place_of.ensures c.in-Missing.is

pub returns-in-One : goal.returns-in-One
returns-in-One c =
    place-one c.args.file.now (rows_of c.args.table.now c.args.n) c.args.track c.args.number c.if-number-eq0.false _ c.place_of.ensures _ _ _ c.in-At.is c.nth.result c.nth.ensures _ _ _ c.in-One.is (search rules)

pub returns-in-Over : goal.returns-in-Over
returns-in-Over c =
    place-over c.args.file.now (rows_of c.args.table.now c.args.n) c.args.track c.args.number c.if-number-eq0.false _ c.place_of.ensures _ _ _ c.in-At.is c.nth.result c.nth.ensures c.in-Over.is

pub returns-in-End : goal.returns-in-End
returns-in-End c =
    place_end c.args.file.now (rows_of c.args.table.now c.args.n) c.args.track c.args.number c.if-number-eq0.false _ c.place_of.ensures _ _ _ c.in-At.is c.nth.result c.nth.ensures c.in-End.is
