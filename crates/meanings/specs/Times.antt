-- What the times of a stop must be.
use Rattle.std.specs.Prelude.{Bool, cond, eqb}
use Rattle.iff.specs.Bytes.{plus}
use Rattle.iff.specs.Times.{is_time, interval}
use Rattle.iff.specs.Tables.{Row, tag}
use Rattle.iff.specs.Words.{stop_time_of, arrival, departure}

-- the times of a stop's row
unfoldable pub times_right : Row → Bool
times_right r = cond (eqb (tag r) plus) (interval (arrival r) (departure r)) (is_time (stop_time_of r))
