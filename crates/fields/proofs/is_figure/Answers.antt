-- `fields::is_figure` meets its contract. Assumes nothing.
use borrow.Author.Tests.{eq-eqb, ne_eqb}
use Rattle.iff.specs.Columns.{figure}
use Rattle.fields.proofs.is_figure.Goals as goal

pub returns-then-mark-eq110 : goal.returns-then-mark-eq110
unfolding figure
returns-then-mark-eq110 c = simp (eq-eqb _ _ c.if-mark-eq110.true, c.is_digit.ensures)

pub returns-then-mark-eq109 : goal.returns-then-mark-eq109
unfolding figure
returns-then-mark-eq109 c = simp (ne_eqb _ _ c.if-mark-eq110.false, eq-eqb _ _ c.if-mark-eq109.true, c.is_mark.ensures)

pub returns : goal.returns
unfolding figure
returns c = simp (ne_eqb _ _ c.if-mark-eq110.false, ne_eqb _ _ c.if-mark-eq109.false)
