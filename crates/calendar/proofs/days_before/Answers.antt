-- The table is the definition's list of months, and no entry is above 334. Assumes nothing.
use native.Mathlib.Omega.{arith}
use borrow.Author.Tests.{lt-ltb, le-ltb}
use Rattle.iff.specs.Days.{days_before}
use Rattle.calendar.proofs.DayLaws.{month_small}
use Rattle.calendar.proofs.days_before.Goals as goal

pub returns-then-month-lt2 : goal.returns-then-month-lt2
unfolding days_before
returns-then-month-lt2 c = (rw (lt-ltb _ _ c.if-month-lt2.true), omega (arith, month_small c.args.month))

pub overflow_add-result : goal.overflow_add-result
overflow_add-result c = omega (arith, month_small c.args.month)

pub returns-then-leap : goal.returns-then-leap
unfolding days_before
returns-then-leap c =
    (rw (le-ltb _ _ c.if-month-lt2.false, c.if-leap.true), omega (arith, month_small c.args.month))

pub returns : goal.returns
unfolding days_before
returns c =
    (rw (le-ltb _ _ c.if-month-lt2.false, c.if-leap.false), omega (arith, month_small c.args.month))
