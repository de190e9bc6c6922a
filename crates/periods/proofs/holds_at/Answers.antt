-- `holds_at` meets its contract: where both dates are days, the two tests are the definition's. Assumes nothing.
use borrow.Author.Tests.{le-leb, lt-leb}
use Rattle.iff_desk.specs.Store.{holds}
use Rattle.periods.proofs.holds_at.Goals as goal

pub returns-in_default : goal.returns-in_default
unfolding holds
returns-in_default c =
    rw (← c.word_at-first.ensures, ← c.day_of.ensures, c.in_default.is)

pub returns-in_default-day_of : goal.returns-in_default-day_of
unfolding holds
returns-in_default-day_of c =
    rw (
      ← c.word_at-first.ensures,
      ← c.day_of.ensures,
      c.in-Some.is,
      ← c.word_at-last.ensures,
      ← c.day_of-2.ensures,
      c.in_default-day_of.is,
    )

pub returns-then-day-from : goal.returns-then-day-from
unfolding holds
returns-then-day-from c =
    rw (
      ← c.word_at-first.ensures,
      ← c.day_of.ensures,
      c.in-Some.is,
      ← c.word_at-last.ensures,
      ← c.day_of-2.ensures,
      c.in-Some-day_of.is,
      lt-leb _ _ c.if-day-from.true,
    )

pub returns : goal.returns
unfolding holds
returns c =
    rw (
      ← c.word_at-first.ensures,
      ← c.day_of.ensures,
      c.in-Some.is,
      ← c.word_at-last.ensures,
      ← c.day_of-2.ensures,
      c.in-Some-day_of.is,
      le-leb _ _ c.if-day-from.false,
    )
