use native.Mathlib.Omega.{arith}
use Rattle.sampletable.specs.declared.Table.TheVariants.{Stts, Ctts, Stsc, Stsz, Offsets, Stss}
use Rattle.sampletable.proofs.Puts.{few-sizes, tables-length}
use Rattle.sampletable.proofs.needed.Goals as goal

pub overflow_add-result : goal.overflow_add-result
overflow_add-result c =
    omega (arith, c.requires.counted, c.size-stts.ensures, few-sizes Stts c.args.timescale c.args.records.now c.args.n, c.size-ctts.ensures, few-sizes Ctts c.args.timescale c.args.records.now c.args.n)

pub overflow_add-result-2 : goal.overflow_add-result-2
overflow_add-result-2 c =
    omega (arith, c.requires.counted, c.size-stts.ensures, few-sizes Stts c.args.timescale c.args.records.now c.args.n, c.size-ctts.ensures, few-sizes Ctts c.args.timescale c.args.records.now c.args.n, c.size-stsc.ensures, few-sizes Stsc c.args.timescale c.args.records.now c.args.n)

pub overflow_add-result-3 : goal.overflow_add-result-3
overflow_add-result-3 c =
    omega (arith, c.requires.counted, c.size-stts.ensures, few-sizes Stts c.args.timescale c.args.records.now c.args.n, c.size-ctts.ensures, few-sizes Ctts c.args.timescale c.args.records.now c.args.n, c.size-stsc.ensures, few-sizes Stsc c.args.timescale c.args.records.now c.args.n, c.size-stsz.ensures, few-sizes Stsz c.args.timescale c.args.records.now c.args.n)

pub overflow_add-result-4 : goal.overflow_add-result-4
overflow_add-result-4 c =
    omega (arith, c.requires.counted, c.size-stts.ensures, few-sizes Stts c.args.timescale c.args.records.now c.args.n, c.size-ctts.ensures, few-sizes Ctts c.args.timescale c.args.records.now c.args.n, c.size-stsc.ensures, few-sizes Stsc c.args.timescale c.args.records.now c.args.n, c.size-stsz.ensures, few-sizes Stsz c.args.timescale c.args.records.now c.args.n, c.size-offsets.ensures, few-sizes Offsets c.args.timescale c.args.records.now c.args.n)

pub overflow_add-result-5 : goal.overflow_add-result-5
overflow_add-result-5 c =
    omega (arith, c.requires.counted, c.size-stts.ensures, few-sizes Stts c.args.timescale c.args.records.now c.args.n, c.size-ctts.ensures, few-sizes Ctts c.args.timescale c.args.records.now c.args.n, c.size-stsc.ensures, few-sizes Stsc c.args.timescale c.args.records.now c.args.n, c.size-stsz.ensures, few-sizes Stsz c.args.timescale c.args.records.now c.args.n, c.size-offsets.ensures, few-sizes Offsets c.args.timescale c.args.records.now c.args.n, c.size-stss.ensures, few-sizes Stss c.args.timescale c.args.records.now c.args.n)
