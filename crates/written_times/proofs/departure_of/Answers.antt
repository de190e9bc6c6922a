-- `departure_of` meets its contract: `<` has none, and `+` has its own word. Assumes nothing.
use mathlib.Core.Path.{◌∙◌}
use borrow.Author.Tests.{eq-eqb, ne_eqb}
use Rattle.written_times.proofs.departure_of.Goals as goal

pub returns-then-tag-eq-LESS : goal.returns-then-tag-eq-LESS
returns-then-tag-eq-LESS c = rw (← c.word_of-tag.ensures, eq-eqb _ _ c.if-tag-eq-LESS.true)

pub returns-then-tag-eq-PLUS : goal.returns-then-tag-eq-PLUS
returns-then-tag-eq-PLUS c =
    c.word_of.ensures ∙ rw (← c.word_of-tag.ensures, ne_eqb _ _ c.if-tag-eq-LESS.false, eq-eqb _ _ c.if-tag-eq-PLUS.true)

pub returns : goal.returns
returns c =
    c.word_of-2.ensures ∙ rw (← c.word_of-tag.ensures, ne_eqb _ _ c.if-tag-eq-LESS.false, ne_eqb _ _ c.if-tag-eq-PLUS.false)
