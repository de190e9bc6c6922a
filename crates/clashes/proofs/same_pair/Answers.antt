-- `same_pair` meets its contract. Assumes nothing.
use mathlib.Core.Bool.{and-true}
use borrow.Author.Tests.{eq-eqb, ne_eqb}
use Rattle.clashes.proofs.same_pair.Goals as goal

pub returns-then-r-e : goal.returns-then-r-e
returns-then-r-e c = rw (eq-eqb _ _ c.if-r-e.true, and-true)

pub returns : goal.returns
returns c = rw (ne_eqb _ _ c.if-r-e.false)
