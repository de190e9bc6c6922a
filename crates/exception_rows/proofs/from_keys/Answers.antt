-- `from_keys` meets its contract: two words of the row. Assumes nothing.
use Rattle.exception_rows.proofs.from_keys.Goals as goal

pub returns : goal.returns
returns c = rw (c.word_at.ensures, c.word_at-2.ensures)
