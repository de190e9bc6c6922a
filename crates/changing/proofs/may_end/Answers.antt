-- `may_end` meets its contract. Assumes nothing.
use borrow.Author.Tests.{le-leb, lt-leb}
use Rattle.changing.proofs.may_end.Goals as goal

pub returns-then-stop-ge2 : goal.returns-then-stop-ge2
returns-then-stop-ge2 c = rw (le-leb _ _ c.if-stop-ge2.true)

pub returns : goal.returns
returns c = rw (lt-leb _ _ c.if-stop-ge2.false)
