use native.Mathlib.Omega.{arith}
use Rattle.chunking.proofs.Cases.{full, apart, behind}
use Rattle.chunking.proofs.joins.Goals as goal

pub returns-then-timescale-lasts : goal.returns-then-timescale-lasts
returns-then-timescale-lasts c =
    full c.args.timescale c.args.chunk c.args.offset c.if-timescale-lasts.true

pub returns-then-offset-last : goal.returns-then-offset-last
returns-then-offset-last c =
    apart c.args.timescale c.args.chunk c.args.offset c.if-timescale-lasts.false (λ e. omega arith)

pub returns-then-offset-last-2 : goal.returns-then-offset-last-2
returns-then-offset-last-2 c =
    apart c.args.timescale c.args.chunk c.args.offset c.if-timescale-lasts.false (λ e. c.if-offset-last-2.true (omega arith))

pub returns : goal.returns
returns c =
    behind c.args.timescale c.args.chunk c.args.offset c.if-timescale-lasts.false (omega arith)
