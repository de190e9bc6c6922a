-- `asked_from` meets its contract. Assumes nothing.
use Rattle.changing.proofs.asked_from.Goals as goal

pub returns : goal.returns
returns c = c.from_part.ensures
