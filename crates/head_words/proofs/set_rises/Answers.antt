-- `head_words::set_rises` meets its contract. Assumes nothing.
use Rattle.head_words.proofs.set_rises.Goals as goal

pub returns : goal.returns
returns c = rw c.flag_of.ensures
