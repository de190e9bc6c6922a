-- `head_row` meets its contract: no row stands behind the one that is handed over. Assumes nothing.
use Rattle.halves.proofs.head_row.Goals as goal

pub block_head-requires : goal.block_head-requires
block_head-requires c = rw c.in-Timetbls.is at c.requires.1
