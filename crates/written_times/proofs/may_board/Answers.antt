-- `may_board` meets its contract. Assumes nothing.
use Rattle.iff_desk.specs.Stops.{may_board}
use Rattle.written_times.proofs.may_board.Goals as goal

pub returns : goal.returns
unfolding may_board
returns c R rows number day e = rw (c.departure_of.ensures, e)
