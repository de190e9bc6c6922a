-- `find_part` meets its contract: the block that the service opens. Assumes nothing.
use Rattle.changing.proofs.find_part.Goals as goal

pub returns : goal.returns
returns c = record { rows = c.find_block.ensures.is; inside = c.find_block.ensures.inside }
