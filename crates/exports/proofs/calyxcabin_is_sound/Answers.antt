-- `calyxcabin_is_sound` meets its contract: it is `sound_tables::is_sound`'s, as a number. Assumes nothing.
use mathlib.Core.Path.{◌∙◌, ap}
use Rattle.question_numbers.specs.Numbers.{sound_number}
use Rattle.exports.proofs.calyxcabin_is_sound.Goals as goal

pub returns : goal.returns
returns c = c.sound_number.ensures ∙ ap sound_number c.is_sound-sound.ensures
