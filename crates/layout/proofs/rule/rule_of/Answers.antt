use Prim.Native.Nat.{min}
use mathlib.Core.Path.{◌≡◌}
use native.Mathlib.Omega.{arith}
use borrow.Author.Tests.{eq-eqb, ne_eqb}
use Rattle.numbers.specs.Field.{when}
use Rattle.layout.specs.Rule.{rule_of}
use Rattle.layout.proofs.rule.rule_of.Goals as goal

pub returns-in-Number : goal.returns-in-Number
unfolding when rule_of
returns-in-Number c =
    rw (c.in-Number.is, c.any.ensures)

pub returns-in-Reserved : goal.returns-in-Reserved
unfolding when rule_of
returns-in-Reserved c =
    rw (c.in-Reserved.is, c.most.ensures, c.cap-width.ensures)

pub returns-then-version-eq1 : goal.returns-then-version-eq1
unfolding when rule_of
returns-then-version-eq1 c =
    rw (c.in-Wide.is, eq-eqb c.args.version 1 c.if-version-eq1.true, c.any-then-version-eq1.ensures)

pub returns-else-version-eq1 : goal.returns-else-version-eq1
unfolding when rule_of
returns-else-version-eq1 c =
    rw (c.in-Wide.is, ne_eqb c.args.version 1 c.if-version-eq1.false, c.any-else-version-eq1.ensures)

pub returns-then-is_set : goal.returns-then-is_set
unfolding when rule_of
returns-then-is_set c =
    rw (c.in-Optional.is, ← c.is_set.ensures, c.if-is_set.true, c.any-then-is_set.ensures)

pub returns-else-is_set : goal.returns-else-is_set
unfolding when rule_of
returns-else-is_set c =
    rw (c.in-Optional.is, ← c.is_set.ensures, c.if-is_set.false, c.any-else-is_set.ensures)

pub returns-in-Least : goal.returns-in-Least
unfolding when rule_of
returns-in-Least c =
    rw (c.in-Least.is, c.most-in-Least.ensures, c.cap-width-in-Least.ensures)

pub returns-in-Version : goal.returns-in-Version
unfolding when rule_of
returns-in-Version c =
    let h : min c.in-Version.hi 255 ≡ c.in-Version.hi = omega arith in
    rw (c.in-Version.is, h)

pub returns-in-Flags : goal.returns-in-Flags
unfolding when rule_of
returns-in-Flags c =
    rw c.in-Flags.is

pub returns-in-Nothing : goal.returns-in-Nothing
unfolding when rule_of
returns-in-Nothing c =
    rw c.in-Nothing.is
