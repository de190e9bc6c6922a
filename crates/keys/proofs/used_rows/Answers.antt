-- `used_rows` meets its contract: the rows that are counted have the file's width. Assumes nothing.
use mathlib.Core.Path.{◌∙◌}
use Rattle.keys.proofs.used_rows.Goals as goal

pub returns : goal.returns
returns c = c.row_count.ensures ∙ rw c.row_width-w.ensures.is
