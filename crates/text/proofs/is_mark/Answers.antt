-- `text::is_mark` meets its contract. Assumes nothing.
use borrow.Author.Tests.{eq-eqb, ne_eqb}
use Rattle.iff.specs.Bytes.{zero_or_one}
use Rattle.text.proofs.is_mark.Goals as goal

pub returns-then-b-eq48 : goal.returns-then-b-eq48
unfolding zero_or_one
returns-then-b-eq48 c = simp (eq-eqb _ _ c.if-b-eq48.true)

pub returns-else-b-eq48 : goal.returns-else-b-eq48
unfolding zero_or_one
returns-else-b-eq48 c = simp (ne_eqb _ _ c.if-b-eq48.false)
