-- `sizes` meets its contract. Assumes nothing.
use Rattle.sizes.proofs.SizeLaws.{sized}
use Rattle.sizes.proofs.sizes.Goals as goal

pub returns : goal.returns
returns c = sized _ _ _ _ c.lengths-v1.ensures c.absences-v2.ensures c.rooms.ensures
