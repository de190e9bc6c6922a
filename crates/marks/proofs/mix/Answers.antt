-- `marks::mix` meets its contract. Assumes nothing.
use borrow.Author.Tests.{eq-eqb, ne_eqb}
use Rattle.marks.specs.Marks.{mixed}
use Rattle.marks.proofs.mix.Goals as goal

pub returns-then-was-eq0 : goal.returns-then-was-eq0
unfolding mixed
returns-then-was-eq0 c = simp (eq-eqb _ _ c.if-was-eq0.true)

pub returns-then-was-print : goal.returns-then-was-print
unfolding mixed
returns-then-was-print c = simp (ne_eqb _ _ c.if-was-eq0.false, eq-eqb _ _ c.if-was-print.true)

pub returns : goal.returns
unfolding mixed
returns c = simp (ne_eqb _ _ c.if-was-eq0.false, ne_eqb _ _ c.if-was-print.false)
