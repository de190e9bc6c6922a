-- The months rise, so the difference does not wrap. Assumes nothing.
use native.Mathlib.Omega.{arith}
use borrow.Author.Tests.{eq-eqb, ne_eqb}
use Rattle.iff.specs.Days.{days_in}
use Rattle.calendar.proofs.DayLaws.{before_rises}
use Rattle.calendar.proofs.last_day.Goals as goal

pub returns-then-month-eq11 : goal.returns-then-month-eq11
unfolding days_in
returns-then-month-eq11 c = (rw (eq-eqb _ _ c.if-month-eq11.true), omega arith)

pub overflow_sub-result : goal.overflow_sub-result
overflow_sub-result c =
    omega (arith, before_rises c.args.month c.args.leap (omega arith))

pub returns : goal.returns
unfolding days_in
returns c =
    (rw (ne_eqb _ _ c.if-month-eq11.false, c.days_before-2.ensures.0, c.days_before.ensures.0), omega arith)
