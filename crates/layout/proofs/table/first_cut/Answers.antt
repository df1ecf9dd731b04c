use Prim.Native.Nat.{◌-◌}
use native.Mathlib.Nat.{div-mul-le_self}
use native.Mathlib.Omega.{arith}
use lib.ListN.{length}
use Rattle.layout.proofs.Tables.{no_fields, past_end, no-width, is_cut, is_whole}
use Rattle.layout.proofs.table.first_cut.Goals as goal

pub returns-then-n-eq0 : goal.returns-then-n-eq0
returns-then-n-eq0 c =
    no_fields c.args.n c.args.w c.args.b.now c.args.at c.if-n-eq0.true

pub returns-then-b-at : goal.returns-then-b-at
returns-then-b-at c =
    past_end c.args.n c.args.w c.args.b.now c.args.at c.if-n-eq0.false c.if-b-at.true

pub returns-then-w-eq0 : goal.returns-then-w-eq0
returns-then-w-eq0 c =
    no-width c.args.n c.args.w c.args.b.now c.args.at c.if-b-at.false c.if-w-eq0.true

pub returns-then-q-n : goal.returns-then-q-n
returns-then-q-n c =
    is_cut c.args.w c.args.b.now (let z = c.if-w-eq0.false in omega arith) c.args.n c.args.at c.if-b-at.false c.if-q-n.true

pub returns : goal.returns
returns c =
    is_whole c.args.w c.args.b.now (let z = c.if-w-eq0.false in omega arith) c.args.n c.args.at c.if-b-at.false c.if-q-n.false
