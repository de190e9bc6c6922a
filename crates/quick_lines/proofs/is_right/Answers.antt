-- `quick_lines::is_right` meets its contract, mark by mark. Assumes nothing.
use borrow.Author.Tests.{eq-eqb, ne_eqb}
use Rattle.quick_lines.specs.Pictures.{right}
use Rattle.quick_lines.proofs.is_right.Goals as goal

pub returns-then-mark-eq44 : goal.returns-then-mark-eq44
unfolding right
returns-then-mark-eq44 c = simp (eq-eqb _ _ c.if-mark-eq44.true)

pub returns-then-mark-eq110 : goal.returns-then-mark-eq110
unfolding right
returns-then-mark-eq110 c = simp (ne_eqb _ _ c.if-mark-eq44.false, eq-eqb _ _ c.if-mark-eq110.true, c.is_digit.ensures)

pub returns-then-mark-eq109 : goal.returns-then-mark-eq109
unfolding right
returns-then-mark-eq109 c = simp (ne_eqb _ _ c.if-mark-eq44.false, ne_eqb _ _ c.if-mark-eq110.false, eq-eqb _ _ c.if-mark-eq109.true)

pub returns : goal.returns
unfolding right
returns c =
    simp (
      ne_eqb _ _ c.if-mark-eq44.false,
      ne_eqb _ _ c.if-mark-eq110.false,
      ne_eqb _ _ c.if-mark-eq109.false,
      c.is_allowed.ensures,
    )
