-- Where the three dates are days, the two tests are the definition's. Assumes nothing.
use borrow.Author.Tests.{le-leb, lt-leb}
use Rattle.iff.specs.Days.{in_period}
use Rattle.calendar.proofs.in_period.Goals as goal

pub returns-in_default : goal.returns-in_default
unfolding in_period
returns-in_default c = rw (← c.day_of.ensures, c.in_default.is)

pub returns-in_default-day_of : goal.returns-in_default-day_of
unfolding in_period
returns-in_default-day_of c =
    rw (← c.day_of.ensures, c.in-Some.is, ← c.day_of-2.ensures, c.in_default-day_of.is)

pub returns-in_default-day_of-2 : goal.returns-in_default-day_of-2
unfolding in_period
returns-in_default-day_of-2 c =
    rw (
      ← c.day_of.ensures,
      c.in-Some.is,
      ← c.day_of-2.ensures,
      c.in-Some-day_of.is,
      ← c.day_of-3.ensures,
      c.in_default-day_of-2.is,
    )

pub returns-then-day-from : goal.returns-then-day-from
unfolding in_period
returns-then-day-from c =
    rw (
      ← c.day_of.ensures,
      c.in-Some.is,
      ← c.day_of-2.ensures,
      c.in-Some-day_of.is,
      ← c.day_of-3.ensures,
      c.in-Some-day_of-2.is,
      lt-leb _ _ c.if-day-from.true,
    )

pub returns : goal.returns
unfolding in_period
returns c =
    rw (
      ← c.day_of.ensures,
      c.in-Some.is,
      ← c.day_of-2.ensures,
      c.in-Some-day_of.is,
      ← c.day_of-3.ensures,
      c.in-Some-day_of-2.is,
      le-leb _ _ c.if-day-from.false,
    )
