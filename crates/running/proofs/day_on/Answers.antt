-- `day_on` meets its contract: the first day is DELIVERY's. Assumes nothing.
use mathlib.Core.Path.{◌∙◌}
use Rattle.running.proofs.day_on.Goals as goal

pub returns : goal.returns
returns c R e = c.day_in.ensures ∙ rw (c.first_word-first.ensures, ← e)
