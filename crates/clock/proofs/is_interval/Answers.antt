-- The tests stand in the definition's order; each way out rewrites those that were passed. Assumes nothing.
use borrow.Author.Tests.{eq-eqb, ne_eqb}
use Rattle.iff.specs.Times.{no_time, interval}
use Rattle.clock.proofs.is_interval.Goals as goal

pub returns-then-arrival-eq-NO_TIME : goal.returns-then-arrival-eq-NO_TIME
unfolding interval
returns-then-arrival-eq-NO_TIME c = rw (eq-eqb c.args.arrival no_time c.if-arrival-eq-NO_TIME.true) c.is_time.ensures

pub returns-then-departure-eq-NO_TIME : goal.returns-then-departure-eq-NO_TIME
unfolding interval
returns-then-departure-eq-NO_TIME c = rw (ne_eqb _ _ c.if-arrival-eq-NO_TIME.false, eq-eqb _ _ c.if-departure-eq-NO_TIME.true) c.is_time-then-departure-eq-NO_TIME.ensures

pub returns-then-is_time-2 : goal.returns-then-is_time-2
unfolding interval
returns-then-is_time-2 c =
    rw (
      ne_eqb _ _ c.if-arrival-eq-NO_TIME.false,
      ne_eqb _ _ c.if-departure-eq-NO_TIME.false,
      ← c.is_time-2.ensures,
      c.if-is_time.true,
      ← c.is_time-then-is_time.ensures,
      c.if-is_time-2.true,
    )

pub returns-then-is_time : goal.returns-then-is_time
unfolding interval
returns-then-is_time c =
    rw (
      ne_eqb _ _ c.if-arrival-eq-NO_TIME.false,
      ne_eqb _ _ c.if-departure-eq-NO_TIME.false,
      ← c.is_time-2.ensures,
      c.if-is_time.true,
      ← c.is_time-then-is_time.ensures,
      c.if-is_time-2.false,
    )

pub returns : goal.returns
unfolding interval
returns c =
    rw (ne_eqb _ _ c.if-arrival-eq-NO_TIME.false, ne_eqb _ _ c.if-departure-eq-NO_TIME.false, ← c.is_time-2.ensures, c.if-is_time.false)
