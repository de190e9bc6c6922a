-- `block_lines::is_new` meets its contract. Assumes nothing.
use borrow.Author.Tests.{ne_eqb}
use Rattle.block_lines.proofs.is_new.Goals as goal

pub returns-then-tag-eq-HASH : goal.returns-then-tag-eq-HASH
returns-then-tag-eq-HASH c = rw c.if-tag-eq-HASH.true

pub returns : goal.returns
returns c = rw (ne_eqb _ _ c.if-tag-eq-HASH.false)
