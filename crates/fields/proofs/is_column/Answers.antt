-- `fields::is_column` meets its contract. Assumes nothing.
use borrow.Author.Tests.{eq-eqb, ne_eqb}
use Rattle.iff.specs.Columns.{column}
use Rattle.fields.proofs.is_column.Goals as goal

pub returns-then-mark-eq44 : goal.returns-then-mark-eq44
unfolding column
returns-then-mark-eq44 c = simp (eq-eqb _ _ c.if-mark-eq44.true)

pub returns : goal.returns
unfolding column
returns c = simp (ne_eqb _ _ c.if-mark-eq44.false, c.is_allowed.ensures)
