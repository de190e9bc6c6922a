-- `is_same` meets its contract. Assumes nothing.
use borrow.Author.Tests.{eq-eqb, ne_eqb}
use Rattle.changing.proofs.is_same.Goals as goal

pub returns-then-from-to : goal.returns-then-from-to
returns-then-from-to c = rw (eq-eqb _ _ c.if-from-to.true)

pub returns : goal.returns
returns c = rw (ne_eqb _ _ c.if-from-to.false)
