-- `calyxcabin_load` meets its contract: it is `load::load`'s, and the answer's numbers. Assumes nothing.
use mathlib.Core.Path.{◌∙◌, ap}
use Rattle.numbers.specs.Numbers.{answer_words}
use Rattle.exports.proofs.calyxcabin_load.Goals as goal

pub returns : goal.returns
returns c =
    record {
      answers = c.words_of.ensures ∙ ap answer_words c.load-loaded.ensures.answers;
      leaves = c.load-loaded.ensures.leaves;
    }
