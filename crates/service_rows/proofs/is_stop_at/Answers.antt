-- `is_stop_at` meets its contract: the word is the row's tag. Assumes nothing.
use mathlib.Core.Path.{◌∙◌}
use Rattle.service_rows.proofs.is_stop_at.Goals as goal

pub returns : goal.returns
returns c = c.is_stop.ensures ∙ rw c.word_at-letter.ensures
