-- Where both dates are days, the two tests are the same. Assumes nothing.
use Rattle.iff.specs.Days.{period}
use Rattle.calendar.proofs.is_period.Goals as goal

pub returns-in_default : goal.returns-in_default
unfolding period
returns-in_default c = rw (← c.day_of.ensures, c.in_default.is)

pub returns-in_default-day_of : goal.returns-in_default-day_of
unfolding period
returns-in_default-day_of c =
    rw (← c.day_of.ensures, c.in-Some.is, ← c.day_of-2.ensures, c.in_default-day_of.is)

pub returns : goal.returns
unfolding period
returns c =
    rw (← c.day_of.ensures, c.in-Some.is, ← c.day_of-2.ensures, c.in-Some-day_of.is)
