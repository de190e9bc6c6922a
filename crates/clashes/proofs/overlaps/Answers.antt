-- `overlaps` meets its contract: each period begins no later than the other ends. Assumes nothing.
use Rattle.iff.specs.Days.{period}
use Rattle.clashes.proofs.overlaps.Goals as goal

pub returns-then-is_period : goal.returns-then-is_period
unfolding period
returns-then-is_period c = rw (← c.is_period.ensures, c.if-is_period.true) c.is_period-then-is_period.ensures

pub returns : goal.returns
unfolding period
returns c = rw (← c.is_period.ensures, c.if-is_period.false)
