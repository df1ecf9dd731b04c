use mathlib.Core.Path.{◌≡◌}
use native.Mathlib.Omega.{arith}
use lib.ListN.{length}
use Rattle.sweeps.proofs.Turns.{fills, skips, strays, holes, overlaps, takes, outside}
use Rattle.sweeps.proofs.decide.Goals as goal

pub returns-then-filled-count : goal.returns-then-filled-count
returns-then-filled-count c =
    λ all m xs ts len st. let four : length c.args.heads ≡ 4 = omega arith in fills c.args.heads c.args.filled c.args.count c.args.p c.args.end four c.requires all m xs ts len st c.if-filled-count.true

pub returns-then-below-lt4 : goal.returns-then-below-lt4
returns-then-below-lt4 c =
    λ all m xs ts len st. let four : length c.args.heads ≡ 4 = omega arith in strays c.args.heads c.args.filled c.args.count c.args.p c.args.end four c.requires all m xs ts len st c.if-filled-count.false c.if-p-end.false _ c.look-seen.ensures c.if-below-lt4.true _

pub returns-then-first-ge4 : goal.returns-then-first-ge4
returns-then-first-ge4 c =
    λ all m xs ts len st. let four : length c.args.heads ≡ 4 = omega arith in holes c.args.heads c.args.filled c.args.count c.args.p c.args.end four c.requires all m xs ts len st c.if-filled-count.false c.if-p-end.false _ c.look-seen.ensures c.if-below-lt4.false c.if-first-ge4.true

pub returns-then-second-lt4 : goal.returns-then-second-lt4
returns-then-second-lt4 c =
    λ all m xs ts len st. let four : length c.args.heads ≡ 4 = omega arith in overlaps c.args.heads c.args.filled c.args.count c.args.p c.args.end four c.requires all m xs ts len st c.if-filled-count.false c.if-p-end.false _ c.look-seen.ensures c.if-below-lt4.false c.if-first-ge4.false c.if-second-lt4.true _ _ c.claim.ensures

pub returns-then-size-end : goal.returns-then-size-end
returns-then-size-end c =
    λ all m xs ts len st. let four : length c.args.heads ≡ 4 = omega arith in takes c.args.heads c.args.filled c.args.count c.args.p c.args.end four c.requires all m xs ts len st c.if-filled-count.false c.if-p-end.false _ c.look-seen.ensures c.if-below-lt4.false c.if-first-ge4.false c.if-second-lt4.false _ _ (omega (arith, c.requires, c.if-size-end.true)) c.until.ensures

pub returns : goal.returns
returns c =
    λ all m xs ts len st. let four : length c.args.heads ≡ 4 = omega arith in outside c.args.heads c.args.filled c.args.count c.args.p c.args.end four c.requires all m xs ts len st c.if-filled-count.false c.if-p-end.false _ c.look-seen.ensures c.if-below-lt4.false c.if-first-ge4.false c.if-second-lt4.false _ _ (omega (arith, c.requires, c.if-size-end.false)) c.claim-2.ensures
