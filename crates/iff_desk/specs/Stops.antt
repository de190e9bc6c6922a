-- "Stop time: service, stop, date: station, local and reference arrival and departure, each perhaps none. 12, 13, 14, 15. It does not ask whether the service runs."
use Rattle.std.specs.Prelude.{ℕ, ◌+◌, ◌/◌, List, Bool, true, false, ◌&&◌, not, cond, eqb, leb, pos, Err, None, Ok, Option, Result, Some}
use Rattle.iff.specs.Bytes.{greater, less, plus, dash}
use Rattle.iff.specs.Files.{PerFile}
use Rattle.iff.specs.Times.{no_time, minutes_of, reference_of}
use Rattle.iff.specs.Tables.{Row, tag}
use Rattle.iff.specs.Words as words
use Rattle.iff.specs.Words.{named, hours, stop_time_of}
use Rattle.iff.specs.declared.Reason.TheVariants.{NoPeriod, NotSound}
use Rattle.iff_rules.specs.Legs.{stops_of}
use Rattle.iff_desk.specs.Sound.{sound, rows_of_tables}
use Rattle.iff_desk.specs.Store.{service_rows, stop_at, day_on, number_on, period_at, is_there}
use Rattle.iff_desk.specs.Running.{asked}
use Rattle.iff.specs.Refusals.{Test}
use Rattle.iff.specs.declared.Reason.{Reason}
use Rattle.iff_desk.specs.Answers.{moment_of}
use Rattle.iff_desk.specs.declared.Moment.{Moment}
use Rattle.iff_desk.specs.declared.StopTimes.{StopTimes}

-- a stop's arrival and departure as written, 9999 for none: `>` has no arrival, `<` no departure, `.` gives both
abbrev pub arrival_of : Row → ℕ
arrival_of r = cond (eqb (tag r) greater) no_time (words.arrival r)

abbrev pub departure_of : Row → ℕ
departure_of r = cond (eqb (tag r) less) no_time (cond (eqb (tag r) plus) (words.departure r) (stop_time_of r))

-- somebody may alight at stop i, or board there, on a day: 9999 says that nobody does
unfoldable pub may_alight : PerFile (List Row) → List Row → ℕ → ℕ → Bool
may_alight R rs i d = not (eqb (arrival_of (stop_at rs i)) no_time)

unfoldable pub may_board : PerFile (List Row) → List Row → ℕ → ℕ → Bool
may_board R rs i d = not (eqb (departure_of (stop_at rs i)) no_time)

-- a time by a zone's period: on the zone's clock, and on the reference clock
abbrev pub time_by : Row → Option ℕ → Option Moment
time_by p (Some m) = moment_of (record { 0 = pos m }) (reference_of (record { 0 = pos m }) (eqb (tag p) dash) (hours p))
time_by p None = None

-- 02, W2: "the period holding the day of the stop's own time: service day plus local minutes divided by 1440, rounded down"; no time has no day
abbrev pub days_later : Option ℕ → ℕ
days_later (Some m) = m / 1440
days_later None = 0

-- no time asks for no period
abbrev pub told_if : Bool → Option Moment → Option (Option Moment)
told_if there (Some moment) = cond there (Some (moment_of moment.local moment.reference)) None
told_if there None = Some None

abbrev pub told_by : Row → Option ℕ → Option (Option Moment)
told_by p m = told_if (is_there p) (time_by p m)

-- a time as written, at a station on a service day, by that day's number
unfoldable pub told_on : PerFile (List Row) → ℕ → ℕ → ℕ → Option (Option Moment)
told_on R station number t = told_by (period_at R station (number + days_later (minutes_of t))) (minutes_of t)

-- "for arrival and departure each", of a stop's row on a day counted from the first day
abbrev pub arrival_on : PerFile (List Row) → Row → ℕ → Option (Option Moment)
arrival_on R r d = told_on R (named r) (number_on R d) (arrival_of r)

abbrev pub departure_on : PerFile (List Row) → Row → ℕ → Option (Option Moment)
departure_on R r d = told_on R (named r) (number_on R d) (departure_of r)

-- both times, or 15: "15 now speaks of that day"
abbrev pub times_told : ℕ → Option (Option Moment) → Option (Option Moment) → Result StopTimes Reason
times_told station (Some a) (Some d) = Ok (record { station = station; arrival = a; departure = d })
times_told station (Some a) None = Err NoPeriod
times_told station None t = Err NoPeriod

-- stops are 1 to n
abbrev pub is_stop_number : List Row → ℕ → Bool
is_stop_number rs i = leb 1 i && leb i (stops_of rs)

abbrev pub stop_time_after : Test → Result StopTimes Reason → Result StopTimes Reason
stop_time_after (Ok _) t = t
stop_time_after (Err r) t = Err r

unfoldable pub stop_time_in : PerFile (List Row) → ℕ → ℕ → ℕ → Result StopTimes Reason
stop_time_in R s i date =
    let rs = service_rows R s in
    let r = stop_at rs i in
    let d = day_on R date in
    stop_time_after (asked R s (is_stop_number rs i) date) (times_told (named r) (arrival_on R r d) (departure_on R r d))

abbrev pub stop_times : Bool → PerFile (List Row) → ℕ → ℕ → ℕ → Result StopTimes Reason
stop_times false R s i date = Err NotSound
stop_times true R s i date = stop_time_in R s i date

unfoldable pub stop_time : PerFile (List ℕ) → ℕ → ℕ → ℕ → Result StopTimes Reason
stop_time T s i date = stop_times (sound T) (rows_of_tables T) s i date
