-- `put_answer` meets its contract: the answer is the change's, in words. Assumes nothing.
use Rattle.sheet_lists.proofs.ListLaws.{answer_put}
use Rattle.sheet_lists.proofs.put_answer.Goals as goal

pub returns : goal.returns
returns c R rows =
    let a = c.args in
    answer_put R a.questions.now a.q c.side_at-from.result c.side_at-to.result c.change_or_lost-told.result
    c.answer_words-words.result a.answers.now _ c.side_at-from.ensures c.side_at-to.ensures (c.change_or_lost-told.ensures R rows)
    c.answer_words-words.ensures c.put_row.ensures
