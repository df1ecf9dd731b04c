use Rattle.sampletable.specs.declared.Table.TheVariants.{Stts, Ctts, Stsc, Stsz, Offsets, Stss}
use Rattle.sampletable.proofs.Puts.{the-behind, behinds-are}
use Rattle.sampletable.proofs.behind.Goals as goal

pub returns-in-Stts : goal.returns-in-Stts
returns-in-Stts c =
    the-behind c.args.table Stts c.in-Stts.is _ behinds-are.0

pub returns-in-Ctts : goal.returns-in-Ctts
returns-in-Ctts c =
    the-behind c.args.table Ctts c.in-Ctts.is _ behinds-are.1

pub returns-in-Stsc : goal.returns-in-Stsc
returns-in-Stsc c =
    the-behind c.args.table Stsc c.in-Stsc.is _ behinds-are.2

pub returns-in-Stsz : goal.returns-in-Stsz
returns-in-Stsz c =
    the-behind c.args.table Stsz c.in-Stsz.is _ behinds-are.3

pub returns-in-Offsets : goal.returns-in-Offsets
returns-in-Offsets c =
    the-behind c.args.table Offsets c.in-Offsets.is _ behinds-are.4

pub returns-in-Stss : goal.returns-in-Stss
returns-in-Stss c =
    the-behind c.args.table Stss c.in-Stss.is _ behinds-are.5
