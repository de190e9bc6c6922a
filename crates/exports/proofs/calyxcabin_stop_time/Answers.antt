-- `calyxcabin_stop_time` meets its contract: it is `desk::stop_time`'s, in numbers. Assumes nothing.
use mathlib.Core.Path.{◌∙◌, ap}
use Rattle.question_numbers.specs.Numbers.{stop_time_words, stop_time_minutes}
use Rattle.exports.proofs.calyxcabin_stop_time.Goals as goal

pub returns : goal.returns
returns c =
    let told = c.stop_time-told.ensures in
    record {
      answers = c.stop_time_words.ensures ∙ ap stop_time_words told;
      times = c.stop_time_minutes.ensures ∙ ap stop_time_minutes told;
    }
