use Rattle.sampletable.specs.declared.Table.TheVariants.{Stts, Ctts, Stsc, Stsz, Offsets, Stss}
use Rattle.sampletable.proofs.Cases.{is-there, always, ctts-there, stss-there}
use Rattle.sampletable.proofs.there.Goals as goal

pub returns-in-Stts : goal.returns-in-Stts
returns-in-Stts c =
    is-there c.args.table Stts c.in-Stts.is c.args.records.now c.args.n _ (always c.args.records.now c.args.n).0

pub returns-in-Ctts : goal.returns-in-Ctts
returns-in-Ctts c =
    is-there c.args.table Ctts c.in-Ctts.is c.args.records.now c.args.n _ (ctts-there c.args.records.now c.args.n c.all_right.result c.all_right.ensures)

pub returns-in-Stsc : goal.returns-in-Stsc
returns-in-Stsc c =
    is-there c.args.table Stsc c.in-Stsc.is c.args.records.now c.args.n _ (always c.args.records.now c.args.n).1

pub returns-in-Stsz : goal.returns-in-Stsz
returns-in-Stsz c =
    is-there c.args.table Stsz c.in-Stsz.is c.args.records.now c.args.n _ (always c.args.records.now c.args.n).2

pub returns-in-Offsets : goal.returns-in-Offsets
returns-in-Offsets c =
    is-there c.args.table Offsets c.in-Offsets.is c.args.records.now c.args.n _ (always c.args.records.now c.args.n).3

pub returns-in-Stss : goal.returns-in-Stss
returns-in-Stss c =
    is-there c.args.table Stss c.in-Stss.is c.args.records.now c.args.n _ (stss-there c.args.records.now c.args.n)
