-- `one_for` meets its contract. Assumes nothing.
use borrow.Author.Tests.{ne_eqb}
use Rattle.fresh_keys.proofs.one_for.Goals as goal

pub returns-then-tag-eq-HASH : goal.returns-then-tag-eq-HASH
returns-then-tag-eq-HASH c = rw c.if-tag-eq-HASH.true

pub returns-else-tag-eq-HASH : goal.returns-else-tag-eq-HASH
returns-else-tag-eq-HASH c = rw (ne_eqb _ _ c.if-tag-eq-HASH.false)
