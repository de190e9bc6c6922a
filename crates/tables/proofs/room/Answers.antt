-- `room` meets its contract: `row_width` gives the width. Assumes nothing.
use Rattle.tables.proofs.room.Goals as goal

pub returns : goal.returns
returns c = rw c.row_width-w.ensures.is
