use native.Mathlib.Omega.{arith}
use Rattle.sampletable.proofs.Whole.{says-timescale, says_none, says-many, says-unfit, ready_of, says-large, says-small, says-done}
use mathlib.Core.Bool.{not}
use mathlib.Core.Path.{refl, ap}
use Rattle.sampletable.proofs.write.Goals as goal

pub returns-then-tables-gt4294967295 : goal.returns-then-tables-gt4294967295
returns-then-tables-gt4294967295 c =
    says-large c.args.timescale c.args.records.now c.args.n c.args.stsd.now c.args.out.now (ready_of c.args.timescale c.args.records.now c.args.n c.args.stsd.now c.args.out.now c.has.result c.if-timescale-eq0.false c.has.ensures (ap not c.if-not-has.false) c.fit.result c.if-n-gt-MANY.false c.fit.ensures (ap not c.if-not-fit.false)) c.needed-tables.result c.needed-tables.ensures (omega (arith, c.if-tables-gt4294967295.true))

pub returns-then-tables-stsd : goal.returns-then-tables-stsd
returns-then-tables-stsd c =
    says-large c.args.timescale c.args.records.now c.args.n c.args.stsd.now c.args.out.now (ready_of c.args.timescale c.args.records.now c.args.n c.args.stsd.now c.args.out.now c.has.result c.if-timescale-eq0.false c.has.ensures (ap not c.if-not-has.false) c.fit.result c.if-n-gt-MANY.false c.fit.ensures (ap not c.if-not-fit.false)) c.needed-tables.result c.needed-tables.ensures (omega (arith, c.if-tables-gt4294967295.false, c.if-tables-stsd.true))

pub returns-then-inside : goal.returns-then-inside
returns-then-inside c =
    says-large c.args.timescale c.args.records.now c.args.n c.args.stsd.now c.args.out.now (ready_of c.args.timescale c.args.records.now c.args.n c.args.stsd.now c.args.out.now c.has.result c.if-timescale-eq0.false c.has.ensures (ap not c.if-not-has.false) c.fit.result c.if-n-gt-MANY.false c.fit.ensures (ap not c.if-not-fit.false)) c.needed-tables.result c.needed-tables.ensures (omega (arith, c.if-tables-gt4294967295.false, c.if-tables-stsd.false, c.if-inside.true))

pub returns-then-out-total : goal.returns-then-out-total
returns-then-out-total c =
    says-small c.args.timescale c.args.records.now c.args.n c.args.stsd.now c.args.out.now (ready_of c.args.timescale c.args.records.now c.args.n c.args.stsd.now c.args.out.now c.has.result c.if-timescale-eq0.false c.has.ensures (ap not c.if-not-has.false) c.fit.result c.if-n-gt-MANY.false c.fit.ensures (ap not c.if-not-fit.false)) c.needed-tables.result _ c.needed-tables.ensures (omega arith) (omega (arith, c.if-inside.false)) c.if-out-total.true

pub returns : goal.returns
returns c =
    says-done c.args.timescale c.args.records.now c.args.n c.args.stsd.now c.args.out.now (ready_of c.args.timescale c.args.records.now c.args.n c.args.stsd.now c.args.out.now c.has.result c.if-timescale-eq0.false c.has.ensures (ap not c.if-not-has.false) c.fit.result c.if-n-gt-MANY.false c.fit.ensures (ap not c.if-not-fit.false)) _ c.needed-tables.result _ c.needed-tables.ensures (omega arith) (omega (arith, c.if-inside.false)) c.if-out-total.false c.put_all.ensures
