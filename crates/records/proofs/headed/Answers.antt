-- `records::headed` meets its contract. Assumes nothing.
use borrow.Author.Tests.{ne_eqb}
use Rattle.records.proofs.headed.Goals as goal

pub returns-then-letter-eq35 : goal.returns-then-letter-eq35
returns-then-letter-eq35 c = rw c.if-letter-eq35.true

pub returns-else-letter-eq35 : goal.returns-else-letter-eq35
returns-else-letter-eq35 c = simp (ne_eqb _ _ c.if-letter-eq35.false)
