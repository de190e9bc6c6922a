-- `parts::is_station` meets its contract: a row's length, then its code. Assumes nothing.
use borrow.Author.Tests.{eq-eqb, ne_eqb}
use Rattle.iff_desk.specs.Parts.{is_station}
use Rattle.parts.proofs.is_station.Goals as goal

pub returns-then-line-ne73 : goal.returns-then-line-ne73
unfolding is_station
returns-then-line-ne73 c e = rw (ne_eqb _ _ c.if-line-ne73.true)

pub returns : goal.returns
unfolding is_station
returns c e = rw (eq-eqb _ _ c.if-line-ne73.false, c.code.ensures)
