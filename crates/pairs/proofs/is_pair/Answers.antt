-- `is_pair` meets its contract. Assumes nothing.
use borrow.Author.Tests.{eq-eqb, ne_eqb}
use Rattle.pairs.proofs.is_pair.Goals as goal

pub returns-then-word_at-a : goal.returns-then-word_at-a
returns-then-word_at-a c =
    rw (← c.word_at.ensures, ← c.word_at-then-word_at-a.ensures, eq-eqb _ _ c.if-word_at-a.true)

pub returns : goal.returns
returns c = rw (← c.word_at.ensures, ne_eqb _ _ c.if-word_at-a.false)
