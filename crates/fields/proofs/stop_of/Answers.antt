-- 000 and 999 are the two stops that go by another name. Assumes nothing.
use borrow.Author.Tests.{ne_eqb}
use Rattle.fields.proofs.stop_of.Goals as goal

pub returns-in-0 : goal.returns-in-0
returns-in-0 c = rw c.in-0.is

pub returns-in-999 : goal.returns-in-999
returns-in-999 c = rw c.in-999.is

pub returns-in_default : goal.returns-in_default
returns-in_default c = simp (ne_eqb _ _ c.in_default.in_default-own.rest.0.1, ne_eqb _ _ c.in_default.in_default-own.rest.1)
