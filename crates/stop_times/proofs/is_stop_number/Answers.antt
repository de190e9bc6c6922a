-- `is_stop_number` meets its contract: stops are 1 to n. Assumes nothing.
use borrow.Author.Tests.{lt-leb, le-leb}
use Rattle.stop_times.proofs.is_stop_number.Goals as goal

pub returns-then-number-lt1 : goal.returns-then-number-lt1
returns-then-number-lt1 c = rw (lt-leb _ _ c.if-number-lt1.true)

pub returns : goal.returns
returns c = rw (c.count_stops.ensures, le-leb _ _ c.if-number-lt1.false)
