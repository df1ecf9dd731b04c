use mathlib.Core.Path.{◌∙◌}
use Rattle.sampletable.specs.declared.Table.TheVariants.{Stts, Ctts, Stsc, Stsz, Offsets, Stss}
use Rattle.sampletable.proofs.Cases.{the-first, firsts-are, wide-first, narrow-first}
use Rattle.sampletable.proofs.first.Goals as goal

pub returns-then-wide : goal.returns-then-wide
returns-then-wide c =
    the-first c.args.table Offsets c.in-Offsets.is c.args.wide c.args.records.now c.args.n c.args.many _ (wide-first c.args.wide c.args.records.now c.args.n c.args.many c.if-wide.true)

pub returns-in-Stts : goal.returns-in-Stts
returns-in-Stts c =
    the-first c.args.table Stts c.in-Stts.is c.args.wide c.args.records.now c.args.n c.args.many _ (firsts-are c.args.wide c.args.records.now c.args.n c.args.many).0

pub returns-in-Ctts : goal.returns-in-Ctts
returns-in-Ctts c =
    the-first c.args.table Ctts c.in-Ctts.is c.args.wide c.args.records.now c.args.n c.args.many _ (firsts-are c.args.wide c.args.records.now c.args.n c.args.many).1

pub returns-in-Stsc : goal.returns-in-Stsc
returns-in-Stsc c =
    the-first c.args.table Stsc c.in-Stsc.is c.args.wide c.args.records.now c.args.n c.args.many _ (firsts-are c.args.wide c.args.records.now c.args.n c.args.many).2

pub returns-in-Stsz : goal.returns-in-Stsz
returns-in-Stsz c =
    the-first c.args.table Stsz c.in-Stsz.is c.args.wide c.args.records.now c.args.n c.args.many _ (c.common.ensures ∙ (firsts-are c.args.wide c.args.records.now c.args.n c.args.many).3)

pub returns-else-wide : goal.returns-else-wide
returns-else-wide c =
    the-first c.args.table Offsets c.in-Offsets.is c.args.wide c.args.records.now c.args.n c.args.many _ (narrow-first c.args.wide c.args.records.now c.args.n c.args.many c.if-wide.false)

pub returns-in-Stss : goal.returns-in-Stss
returns-in-Stss c =
    the-first c.args.table Stss c.in-Stss.is c.args.wide c.args.records.now c.args.n c.args.many _ (firsts-are c.args.wide c.args.records.now c.args.n c.args.many).4
