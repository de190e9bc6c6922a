-- A stop's times on a service day, by the day's number.
use Rattle.std.specs.Prelude.{ℕ, List, Result}
use Rattle.iff.specs.Files.{PerFile}
use Rattle.iff.specs.Tables.{Row}
use Rattle.iff.specs.Words.{named}
use Rattle.iff_desk.specs.Stops.{arrival_of, departure_of, told_on, times_told}
use Rattle.iff.specs.declared.Reason.{Reason}
use Rattle.iff_desk.specs.declared.StopTimes.{StopTimes}

-- of a stop's row, each time by the period of its own day; 15 where no period holds it
unfoldable pub times_there : PerFile (List Row) → Row → ℕ → Result StopTimes Reason
times_there R r number = times_told (named r) (told_on R (named r) number (arrival_of r)) (told_on R (named r) number (departure_of r))
