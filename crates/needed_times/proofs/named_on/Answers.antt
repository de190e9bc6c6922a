-- `named_on` meets its contract: the word of the row that was found. Assumes nothing.
use mathlib.Core.Path.{ap, sym, ◌∙◌}
use Rattle.iff.specs.Words.{named}
use Rattle.needed_times.proofs.named_on.Goals as goal

pub returns : goal.returns
returns c = c.word_of.ensures ∙ ap named (sym c.record_row-row.ensures.is)
