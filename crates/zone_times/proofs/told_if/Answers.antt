-- `told_if` meets its contract. Assumes nothing.
use Rattle.zone_times.proofs.told_if.Goals as goal

pub returns-then-there : goal.returns-then-there
returns-then-there c = rw (c.in-Some.is, c.if-there.true)

pub returns-else-there : goal.returns-else-there
returns-else-there c = rw (c.in-Some.is, c.if-there.false)

pub returns-in-None : goal.returns-in-None
returns-in-None c = rw c.in-None.is
