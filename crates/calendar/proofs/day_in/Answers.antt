-- Where both dates are days, the difference is the definition's, 0 where they turn back. Assumes nothing.
use native.Mathlib.Omega.{arith}
use Rattle.iff.specs.Days.{day_in}
use Rattle.calendar.proofs.day_in.Goals as goal

pub returns-in_default : goal.returns-in_default
unfolding day_in
returns-in_default c = rw (← c.day_of.ensures, c.in_default.is)

pub returns-in_default-day_of : goal.returns-in_default-day_of
unfolding day_in
returns-in_default-day_of c =
    rw (← c.day_of.ensures, c.in-Some.is, ← c.day_of-2.ensures, c.in_default-day_of.is)

pub returns-then-day-from : goal.returns-then-day-from
unfolding day_in
returns-then-day-from c =
    rw (← c.day_of.ensures, c.in-Some.is, ← c.day_of-2.ensures, c.in-Some-day_of.is) (omega arith)

pub returns : goal.returns
unfolding day_in
returns c =
    rw (← c.day_of.ensures, c.in-Some.is, ← c.day_of-2.ensures, c.in-Some-day_of.is)
