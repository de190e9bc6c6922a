-- `next_run` meets its contract. Assumes nothing.
use Rattle.fresh_keys.proofs.next_run.Goals as goal

pub returns : goal.returns
returns c = rw c.still_rises-rises.ensures
