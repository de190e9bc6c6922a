-- `parts::seek_after` meets its contract: a search of what is behind the line. Assumes nothing.
use Rattle.parts.proofs.SeekLaws.{after_end, after_line}
use Rattle.parts.proofs.seek_after.Goals as goal

pub returns-then-text-from : goal.returns-then-text-from
returns-then-text-from c = after_end _ _ _ c.if-text-from.true

pub returns : goal.returns
returns c = after_line _ _ _ _ c.line_at-line.ensures _ c.seek.ensures
