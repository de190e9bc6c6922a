-- The head has no days; a period's are in turn. Assumes nothing.
use borrow.Author.Rules.{rules}
use borrow.Author.Tests.{eq-eqb, ne_eqb}
use Rattle.iff_rules.specs.Meaning.{group_meaning}
use Rattle.meanings.proofs.zone_means.Goals as goal

pub returns-then-row-eq-HASH : goal.returns-then-row-eq-HASH
unfolding group_meaning
returns-then-row-eq-HASH c = rw (eq-eqb _ _ c.if-row-eq-HASH.true)

pub is_period-requires : goal.is_period-requires
unfolding group_meaning
is_period-requires c = search rules

pub returns : goal.returns
unfolding group_meaning
returns c = rw (ne_eqb _ _ c.if-row-eq-HASH.false, c.is_period.ensures)
