-- Where both dates are days in turn, both ends are counted; a day's number is small, so the sum fits. Assumes nothing.
use native.Mathlib.Omega.{arith}
use mathlib.Core.Path.{sym, ◌∙◌}
use Rattle.iff.specs.Days.{span}
use Rattle.calendar.proofs.DayLaws.{day_small}
use Rattle.calendar.proofs.span.Goals as goal

pub returns-in_default : goal.returns-in_default
unfolding span
returns-in_default c = rw (← c.day_of.ensures, c.in_default.is)

pub returns-in_default-day_of : goal.returns-in_default-day_of
unfolding span
returns-in_default-day_of c =
    rw (← c.day_of.ensures, c.in-Some.is, ← c.day_of-2.ensures, c.in_default-day_of.is)

pub returns-then-to-from : goal.returns-then-to-from
unfolding span
returns-then-to-from c =
    rw (← c.day_of.ensures, c.in-Some.is, ← c.day_of-2.ensures, c.in-Some-day_of.is) (omega arith)

pub overflow_add-result : goal.overflow_add-result
overflow_add-result c =
    omega (
      arith,
      day_small
          c.args.last
          c.in-Some-day_of.to
          (sym c.day_of-2.ensures ∙ c.in-Some-day_of.is),
    )

pub returns : goal.returns
unfolding span
returns c =
    rw (← c.day_of.ensures, c.in-Some.is, ← c.day_of-2.ensures, c.in-Some-day_of.is) (omega arith)
