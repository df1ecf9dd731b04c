use Rattle.sampletable.specs.declared.Table.TheVariants.{Stts, Ctts, Stsc, Stsz, Offsets, Stss}
use Rattle.sampletable.proofs.Cases.{the-kind, kinds-are, wide-kind, narrow-kind}
use Rattle.sampletable.proofs.kind.Goals as goal

pub returns-then-wide : goal.returns-then-wide
returns-then-wide c =
    the-kind c.args.table Offsets c.in-Offsets.is c.args.wide _ (wide-kind c.args.wide c.if-wide.true)

pub returns-in-Stts : goal.returns-in-Stts
returns-in-Stts c =
    the-kind c.args.table Stts c.in-Stts.is c.args.wide _ (kinds-are c.args.wide).0

pub returns-in-Ctts : goal.returns-in-Ctts
returns-in-Ctts c =
    the-kind c.args.table Ctts c.in-Ctts.is c.args.wide _ (kinds-are c.args.wide).1

pub returns-in-Stsc : goal.returns-in-Stsc
returns-in-Stsc c =
    the-kind c.args.table Stsc c.in-Stsc.is c.args.wide _ (kinds-are c.args.wide).2

pub returns-in-Stsz : goal.returns-in-Stsz
returns-in-Stsz c =
    the-kind c.args.table Stsz c.in-Stsz.is c.args.wide _ (kinds-are c.args.wide).3

pub returns-else-wide : goal.returns-else-wide
returns-else-wide c =
    the-kind c.args.table Offsets c.in-Offsets.is c.args.wide _ (narrow-kind c.args.wide c.if-wide.false)

pub returns-in-Stss : goal.returns-in-Stss
returns-in-Stss c =
    the-kind c.args.table Stss c.in-Stss.is c.args.wide _ (kinds-are c.args.wide).4
