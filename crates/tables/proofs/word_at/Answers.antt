-- `word_at` meets its contract: a word of a row is a word of the table. Assumes nothing.
use mathlib.Core.Path.{sym}
use Rattle.tables.proofs.Rows.{word_of_row}
use Rattle.tables.proofs.word_at.Goals as goal

pub returns : goal.returns
returns c = sym (word_of_row _ _ _ _ c.requires.0)
