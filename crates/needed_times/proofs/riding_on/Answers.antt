-- `riding_on` meets its contract: the leg's `%` and its `&`. Assumes nothing.
use Rattle.iff_desk.specs.Changing.{riding_on}
use Rattle.needed_times.proofs.riding_on.Goals as goal

pub returns : goal.returns
unfolding riding_on
returns c = rw (c.named_on.ensures, c.named_on-2.ensures)
