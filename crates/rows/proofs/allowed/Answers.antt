use mathlib.Core.Path.{refl}
use Rattle.numbers.proofs.Chain.{is_eq, is_ne}
use Rattle.rows.specs.Rows.{allowed_of}
use Rattle.rows.proofs.allowed.Goals as goal

pub returns-in-Any : goal.returns-in-Any
unfolding allowed_of
returns-in-Any c =
    rw c.in-Any.is

pub returns-in-Least : goal.returns-in-Least
unfolding allowed_of
returns-in-Least c =
    rw c.in-Least.is

pub returns-in-Rising : goal.returns-in-Rising
unfolding allowed_of
returns-in-Rising c =
    rw c.in-Rising.is

pub returns-then-last-eq0 : goal.returns-then-last-eq0
unfolding allowed_of
returns-then-last-eq0 c =
    rw c.in-FromOne.is (is_eq _ _ _ _ _ c.if-last-eq0.true refl)

pub returns-else-last-eq0 : goal.returns-else-last-eq0
unfolding allowed_of
returns-else-last-eq0 c =
    rw c.in-FromOne.is (is_ne _ _ _ _ _ c.if-last-eq0.false refl)

pub returns-in-Time : goal.returns-in-Time
unfolding allowed_of
returns-in-Time c =
    rw c.in-Time.is c.is_time.ensures

pub returns-in-Nothing : goal.returns-in-Nothing
unfolding allowed_of
returns-in-Nothing c =
    rw c.in-Nothing.is
