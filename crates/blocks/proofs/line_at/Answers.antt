-- `blocks::line_at` meets its contract: the line that stands at `at` is the first of the lines from there on. Assumes nothing.
use Rattle.blocks.proofs.ReadLaws.{turns_at}
use Rattle.blocks.proofs.line_at.Goals as goal

pub returns : goal.returns
returns c =
    turns_at _ _ _ _ _ c.requires.1 _ c.line_at-span.ensures _ c.block_line.ensures _ c.turn_to.ensures
