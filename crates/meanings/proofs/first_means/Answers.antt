-- The two tests are the definition's, in order. Assumes nothing.
use borrow.Author.Rules.{rules}
use borrow.Author.Tests.{not-true, not-false}
use Rattle.iff_rules.specs.Meaning.{first_meaning}
use Rattle.meanings.proofs.first_means.Goals as goal

pub is_period-requires : goal.is_period-requires
unfolding first_meaning
is_period-requires c = search rules

pub returns-then-not-is_period : goal.returns-then-not-is_period
unfolding first_meaning
returns-then-not-is_period c = rw (← c.is_period.ensures, not-true c.is_period.result c.if-not-is_period.true-raw)

pub span-requires : goal.span-requires
unfolding first_meaning
span-requires c = search rules

pub returns : goal.returns
unfolding first_meaning
returns c = rw (← c.is_period.ensures, not-false c.is_period.result c.if-not-is_period.false-raw, c.span.ensures)
