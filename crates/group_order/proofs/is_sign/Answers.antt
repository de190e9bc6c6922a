-- `group_order::is_sign` meets its contract. The two signs of a period. Assumes nothing.
use borrow.Author.Tests.{eq-eqb, ne_eqb}
use Rattle.group_order.proofs.is_sign.Goals as goal

pub returns-then-tag-eq-PLUS : goal.returns-then-tag-eq-PLUS
returns-then-tag-eq-PLUS c = rw (eq-eqb _ _ c.if-tag-eq-PLUS.true)

pub returns : goal.returns
returns c = rw (ne_eqb _ _ c.if-tag-eq-PLUS.false)
