-- The tests stand in the definition's order; each way out rewrites those that were passed. Assumes nothing.
use borrow.Author.Tests.{eq-eqb, ne_eqb, lt-ltb, le-ltb}
use Rattle.iff.specs.Days.{day_is, day_of}
use Rattle.calendar.proofs.day_of.Goals as goal

pub returns-then-year-lt1600 : goal.returns-then-year-lt1600
unfolding day_of day_is
returns-then-year-lt1600 c = rw (lt-ltb _ _ c.if-year-lt1600.true)

pub returns-then-month-eq0 : goal.returns-then-month-eq0
unfolding day_of day_is
returns-then-month-eq0 c = rw (le-ltb _ _ c.if-year-lt1600.false, eq-eqb _ _ c.if-month-eq0.true)

pub returns-then-month-gt12 : goal.returns-then-month-gt12
unfolding day_of day_is
returns-then-month-gt12 c = rw (le-ltb _ _ c.if-year-lt1600.false, ne_eqb _ _ c.if-month-eq0.false, lt-ltb _ _ c.if-month-gt12.true)

pub returns-then-day-eq0 : goal.returns-then-day-eq0
unfolding day_of day_is
returns-then-day-eq0 c =
    rw (
      le-ltb _ _ c.if-year-lt1600.false,
      ne_eqb _ _ c.if-month-eq0.false,
      le-ltb _ _ c.if-month-gt12.false,
      eq-eqb _ _ c.if-day-eq0.true,
    )

pub returns-then-wide-day : goal.returns-then-wide-day
unfolding day_of day_is
returns-then-wide-day c =
    rw (
      le-ltb _ _ c.if-year-lt1600.false,
      ne_eqb _ _ c.if-month-eq0.false,
      le-ltb _ _ c.if-month-gt12.false,
      ne_eqb _ _ c.if-day-eq0.false,
      ← c.is_leap-leap.ensures,
      ← c.last_day.ensures.0,
      ← c.wide.ensures,
      lt-ltb _ _ c.if-wide-day.true,
    )

pub returns : goal.returns
unfolding day_of day_is
returns c =
    rw (
      le-ltb _ _ c.if-year-lt1600.false,
      ne_eqb _ _ c.if-month-eq0.false,
      le-ltb _ _ c.if-month-gt12.false,
      ne_eqb _ _ c.if-day-eq0.false,
      ← c.is_leap-leap.ensures,
      ← c.last_day.ensures.0,
      ← c.wide.ensures,
      le-ltb _ _ c.if-wide-day.false,
      c.wide-2.ensures,
      c.days_before.ensures.0,
      c.days_of_years.ensures.0,
    )
