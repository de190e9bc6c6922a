-- `runs_on` meets its contract: the vector is that of the footnote of the leg's record. Assumes nothing.
use mathlib.Core.Path.{◌∙◌}
use borrow.Author.Rules.{rules}
use Rattle.iff_desk.specs.Running.{runs_on}
use Rattle.running.proofs.runs_on.Goals as goal

pub word_of-footnote-requires : goal.word_of-footnote-requires
word_of-footnote-requires c = (search rules, c.record_row-row.ensures.stands)

pub returns : goal.returns
unfolding runs_on
returns c R e =
    c.is_marked.ensures ∙ rw (c.word_of-footnote.ensures, ← c.record_row-row.ensures.is, ← e)
