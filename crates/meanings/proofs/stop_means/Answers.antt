-- An interval has two times, any other stop one. Assumes nothing.
use borrow.Author.Rules.{rules}
use borrow.Author.Tests.{eq-eqb, ne_eqb}
use Rattle.meanings.specs.Times.{times_right}
use Rattle.meanings.proofs.stop_means.Goals as goal

pub is_interval-requires : goal.is_interval-requires
unfolding times_right
is_interval-requires c = search rules

pub returns-then-row-eq-PLUS : goal.returns-then-row-eq-PLUS
unfolding times_right
returns-then-row-eq-PLUS c = rw (eq-eqb _ _ c.if-row-eq-PLUS.true, c.is_interval.ensures)

pub is_time-requires : goal.is_time-requires
unfolding times_right
is_time-requires c = search rules

pub returns : goal.returns
unfolding times_right
returns c = rw (ne_eqb _ _ c.if-row-eq-PLUS.false, c.is_time.ensures)
