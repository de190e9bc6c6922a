-- `head_words::form_of` meets its contract. Assumes nothing.
use Rattle.iff_rules.specs.Rows.{form_of}
use Rattle.head_words.proofs.form_of.Goals as goal

pub returns : goal.returns
unfolding form_of
returns c = rw (c.span.ensures, c.word_or_zero-last.ensures, c.word_or_zero-first.ensures)
