use Rattle.sampletable.proofs.Cases.{by-stts, by-ctts, by-stsc, by-stsz, by-offsets, by-stss}
use Rattle.sampletable.proofs.entries.Goals as goal

pub returns-in-Stts : goal.returns-in-Stts
returns-in-Stts c =
    by-stts c.args.table c.args.timescale c.args.records.now c.args.n c.args.out.now _ c.in-Stts.is c.entries.ensures

pub returns-in-Ctts : goal.returns-in-Ctts
returns-in-Ctts c =
    by-ctts c.args.table c.args.timescale c.args.records.now c.args.n c.args.out.now _ c.in-Ctts.is c.entries-in-Ctts.ensures

pub returns-in-Stsc : goal.returns-in-Stsc
returns-in-Stsc c =
    by-stsc c.args.table c.args.timescale c.args.records.now c.args.n c.args.out.now _ c.in-Stsc.is c.entries-in-Stsc.ensures

pub returns-in-Stsz : goal.returns-in-Stsz
returns-in-Stsz c =
    by-stsz c.args.table c.args.timescale c.args.records.now c.args.n c.args.out.now _ c.in-Stsz.is c.entries-in-Stsz.ensures

pub returns-in-Offsets : goal.returns-in-Offsets
returns-in-Offsets c =
    by-offsets c.args.table c.args.timescale c.args.records.now c.args.n c.args.out.now _ c.in-Offsets.is c.entries-in-Offsets.ensures

pub returns-in-Stss : goal.returns-in-Stss
returns-in-Stss c =
    by-stss c.args.table c.args.timescale c.args.records.now c.args.n c.args.out.now _ c.in-Stss.is c.entries-in-Stss.ensures
