-- `arrival_of` meets its contract: `>` has none. Assumes nothing.
use mathlib.Core.Path.{◌∙◌}
use borrow.Author.Tests.{eq-eqb, ne_eqb}
use Rattle.written_times.proofs.arrival_of.Goals as goal

pub returns-then-word_of-eq-GREATER : goal.returns-then-word_of-eq-GREATER
returns-then-word_of-eq-GREATER c = rw (← c.word_of.ensures, eq-eqb _ _ c.if-word_of-eq-GREATER.true)

pub returns : goal.returns
returns c = c.word_of-2.ensures ∙ rw (← c.word_of.ensures, ne_eqb _ _ c.if-word_of-eq-GREATER.false)
