-- `calyxcabin_change` meets its contract: it is `desk::change`'s, in numbers. Assumes nothing.
use mathlib.Core.Path.{◌∙◌, ap}
use Rattle.change_numbers.specs.Numbers.{change_words, change_gap}
use Rattle.exports.proofs.calyxcabin_change.Goals as goal

pub returns : goal.returns
returns c =
    let told = c.change-told.ensures in
    record {
      answers = c.change_words.ensures ∙ ap change_words told;
      gap = c.change_gap.ensures ∙ ap change_gap told;
    }
