-- `calyxcabin_running_day` meets its contract: it is `desk::running_day`'s, in numbers. Assumes nothing.
use mathlib.Core.Path.{◌∙◌, ap}
use Rattle.question_numbers.specs.Numbers.{running_words}
use Rattle.exports.proofs.calyxcabin_running_day.Goals as goal

pub returns : goal.returns
returns c = c.running_words.ensures ∙ ap running_words c.running_day-told.ensures
