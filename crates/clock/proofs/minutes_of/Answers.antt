-- By whether the number is a time. Assumes nothing.
use Rattle.iff.specs.Times.{minutes_of}
use Rattle.clock.proofs.minutes_of.Goals as goal

pub returns-then-is_time : goal.returns-then-is_time
unfolding minutes_of
returns-then-is_time c = rw (← c.is_time.ensures, c.if-is_time.true)

pub returns : goal.returns
unfolding minutes_of
returns c = rw (← c.is_time.ensures, c.if-is_time.false)
