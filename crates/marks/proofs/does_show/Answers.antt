-- `marks::does_show` meets its contract. Assumes nothing.
use borrow.Author.Tests.{eq-eqb, ne_eqb}
use Rattle.marks.specs.Marks.{shows}
use Rattle.marks.proofs.does_show.Goals as goal

pub returns-then-mark-print : goal.returns-then-mark-print
unfolding shows
returns-then-mark-print c = simp (eq-eqb _ _ c.if-mark-print.true)

pub returns : goal.returns
unfolding shows
returns c = simp (ne_eqb _ _ c.if-mark-print.false)
