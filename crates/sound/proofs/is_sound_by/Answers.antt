-- `is_sound_by` meets its contract: tables are sound where something is told of them. Assumes nothing.
use mathlib.Core.Path.{◌∙◌}
use Rattle.sound.proofs.is_sound_by.Goals as goal

pub returns : goal.returns
returns c = c.is_some.ensures ∙ c.tell_soundness.ensures.says
