-- `second_row` meets its contract. Assumes nothing.
use borrow.Author.Tests.{lt-ltb, le-ltb}
use Rattle.vectors.proofs.second_row.Goals as goal

pub returns-then-part-gt1 : goal.returns-then-part-gt1
returns-then-part-gt1 c = rw (lt-ltb _ _ c.if-part-gt1.true)

pub returns-else-part-gt1 : goal.returns-else-part-gt1
returns-else-part-gt1 c = rw (le-ltb _ _ c.if-part-gt1.false)
