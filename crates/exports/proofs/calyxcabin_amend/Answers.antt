-- `calyxcabin_amend` meets its contract: it is `amend::amend`'s, and the answer's numbers. Assumes nothing.
use mathlib.Core.Path.{◌∙◌, ap}
use Rattle.numbers.specs.Numbers.{answer_words}
use Rattle.exports.proofs.calyxcabin_amend.Goals as goal

pub returns : goal.returns
returns c =
    record {
      answers = c.words_of.ensures ∙ ap answer_words c.amend-amended.ensures.answer;
      leaves = c.amend-amended.ensures.table;
    }
