-- `may_alight` meets its contract. Assumes nothing.
use Rattle.iff_desk.specs.Stops.{may_alight}
use Rattle.written_times.proofs.may_alight.Goals as goal

pub returns : goal.returns
unfolding may_alight
returns c R rows number day e = rw (c.arrival_of.ensures, e)
