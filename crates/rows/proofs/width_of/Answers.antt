use Rattle.rows.specs.Rows.{width_of}
use Rattle.rows.proofs.width_of.Goals as goal

pub returns-in-Any : goal.returns-in-Any
unfolding width_of
returns-in-Any c =
    rw (c.in-Any.is, c.cap.ensures)

pub returns-in-Least : goal.returns-in-Least
unfolding width_of
returns-in-Least c =
    rw (c.in-Least.is, c.cap-in-Least.ensures)

pub returns-in-Rising : goal.returns-in-Rising
unfolding width_of
returns-in-Rising c =
    rw (c.in-Rising.is, c.cap-in-Rising.ensures)

pub returns-in-FromOne : goal.returns-in-FromOne
unfolding width_of
returns-in-FromOne c =
    rw (c.in-FromOne.is, c.cap-in-FromOne.ensures)

pub returns-in-Time : goal.returns-in-Time
unfolding width_of
returns-in-Time c =
    rw (c.in-Time.is, c.cap-in-Time.ensures)

pub returns-in-Nothing : goal.returns-in-Nothing
unfolding width_of
returns-in-Nothing c =
    rw c.in-Nothing.is
