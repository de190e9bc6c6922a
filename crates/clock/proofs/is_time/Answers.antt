-- Both tests of the definition, in its order. Assumes nothing.
use borrow.Author.Tests.{lt-ltb, le-ltb}
use Rattle.iff.specs.Times.{is_time}
use Rattle.clock.proofs.is_time.Goals as goal

pub returns-then-t-lt10000 : goal.returns-then-t-lt10000
unfolding is_time
returns-then-t-lt10000 c = rw (lt-ltb _ _ c.if-t-lt10000.true)

pub returns : goal.returns
unfolding is_time
returns c = rw (le-ltb _ _ c.if-t-lt10000.false)
