-- `mark_word` meets its contract: beyond a row's words there is nothing. Assumes nothing.
use Rattle.vectors.proofs.SecondLaws.{word_beyond}
use Rattle.vectors.proofs.mark_word.Goals as goal

pub returns : goal.returns
returns c = let a = c.args in word_beyond a.w a.t.now a.row a.k c.if-k-w.false
