-- `is_marked_at` meets its contract: the row's own footnote. Assumes nothing.
use Rattle.exception_rows.proofs.is_marked_at.Goals as goal

pub returns : goal.returns
returns c = rw (← c.word_at-footnote.ensures) c.is_marked.ensures
