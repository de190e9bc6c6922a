-- `answer_words` meets its contract: each word is its callee's. Assumes nothing.
use Rattle.sheet_answers.proofs.WordLaws.{eight}
use Rattle.sheet_answers.proofs.answer_words.Goals as goal

pub returns : goal.returns
returns c =
    eight c.args.answer _ _ _ c.change_words-words.ensures c.change_gap-gap.ensures
    (record { sfits = c.minutes-1.given }) c.gap_word.ensures
