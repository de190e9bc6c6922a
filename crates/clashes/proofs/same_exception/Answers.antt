-- `same_exception` meets its contract: the words stand in the definition's order. Assumes nothing.
use mathlib.Core.Bool.{and-true}
use borrow.Author.Tests.{eq-eqb, ne_eqb}
use Rattle.clashes.proofs.same_exception.Goals as goal

pub returns-then-r-e : goal.returns-then-r-e
returns-then-r-e c = rw (ne_eqb _ _ c.if-r-e.true)

pub returns-then-r-e-2 : goal.returns-then-r-e-2
returns-then-r-e-2 c = rw (eq-eqb _ _ c.if-r-e.false, ne_eqb _ _ c.if-r-e-2.true)

pub returns-then-r-e-3 : goal.returns-then-r-e-3
returns-then-r-e-3 c =
    rw (eq-eqb _ _ c.if-r-e.false, eq-eqb _ _ c.if-r-e-2.false, ne_eqb _ _ c.if-r-e-3.true)

pub returns-then-r-e-4 : goal.returns-then-r-e-4
returns-then-r-e-4 c =
    rw (
      eq-eqb _ _ c.if-r-e.false,
      eq-eqb _ _ c.if-r-e-2.false,
      eq-eqb _ _ c.if-r-e-3.false,
      ne_eqb _ _ c.if-r-e-4.true,
    )

pub returns : goal.returns
returns c =
    rw (
      eq-eqb _ _ c.if-r-e.false,
      eq-eqb _ _ c.if-r-e-2.false,
      eq-eqb _ _ c.if-r-e-3.false,
      eq-eqb _ _ c.if-r-e-4.false,
      and-true,
    )
