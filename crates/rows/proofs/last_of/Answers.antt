use Rattle.rows.specs.Rows.{last_of}
use Rattle.rows.proofs.last_of.Goals as goal

pub returns-in-Any : goal.returns-in-Any
unfolding last_of
returns-in-Any c =
    rw c.in-Any.is

pub returns-in-Least : goal.returns-in-Least
unfolding last_of
returns-in-Least c =
    rw c.in-Least.is

pub returns-in-Rising : goal.returns-in-Rising
unfolding last_of
returns-in-Rising c =
    rw c.in-Rising.is

pub returns-in-FromOne : goal.returns-in-FromOne
unfolding last_of
returns-in-FromOne c =
    rw c.in-FromOne.is

pub returns-in-Time : goal.returns-in-Time
unfolding last_of
returns-in-Time c =
    rw c.in-Time.is

pub returns-in-Nothing : goal.returns-in-Nothing
unfolding last_of
returns-in-Nothing c =
    rw c.in-Nothing.is
