-- The two letters stay, and what is neither has none. Assumes nothing.
use borrow.Author.Tests.{ne_eqb}
use Rattle.first_bytes.proofs.vector_tag.Goals as goal

pub returns-in-35 : goal.returns-in-35
returns-in-35 c = rw c.in-35.is

pub returns-in-64 : goal.returns-in-64
returns-in-64 c = rw c.in-64.is

pub returns-in_default : goal.returns-in_default
returns-in_default c = simp (ne_eqb _ _ c.in_default.in_default-own.rest.0.1, ne_eqb _ _ c.in_default.in_default-own.rest.1)
