-- `call_of` meets its contract: the day is counted from the first day. Assumes nothing.
use Rattle.changing.proofs.call_of.Goals as goal

pub returns : goal.returns
returns c R e = rw (c.day_on.ensures R e)
