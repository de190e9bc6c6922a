-- `is_leg` meets its contract: legs are 1 to n - 1. Assumes nothing.
use borrow.Author.Tests.{lt-leb, le-leb}
use Rattle.running.proofs.is_leg.Goals as goal

pub returns-then-leg-lt1 : goal.returns-then-leg-lt1
returns-then-leg-lt1 c = rw (lt-leb _ _ c.if-leg-lt1.true)

pub returns : goal.returns
returns c = rw (le-leb _ _ c.if-leg-lt1.false)
