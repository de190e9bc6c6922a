-- `open_groups::run_after` meets its contract. A `#` adds a key, another row none. Assumes nothing.
use borrow.Author.Tests.{eq-eqb, ne_eqb}
use Rattle.open_groups.proofs.run_after.Goals as goal

pub returns-then-tag-eq-HASH : goal.returns-then-tag-eq-HASH
returns-then-tag-eq-HASH c = rw (eq-eqb _ _ c.if-tag-eq-HASH.true) c.next_run.ensures

pub returns : goal.returns
returns c = rw (ne_eqb _ _ c.if-tag-eq-HASH.false)
