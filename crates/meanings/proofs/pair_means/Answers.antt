-- The head has no possibility; a pair's is 2 at most. Assumes nothing.
use borrow.Author.Tests.{eq-eqb, ne_eqb}
use Rattle.iff_rules.specs.Meaning.{group_meaning}
use Rattle.meanings.proofs.pair_means.Goals as goal

pub returns-then-row-eq-HASH : goal.returns-then-row-eq-HASH
unfolding group_meaning
returns-then-row-eq-HASH c = rw (eq-eqb _ _ c.if-row-eq-HASH.true)

pub returns : goal.returns
unfolding group_meaning
returns c = rw (ne_eqb _ _ c.if-row-eq-HASH.false)
