-- Document 01's rule for times, before request W2: "by the period that holds the service day", for arrival and departure alike.
use Rattle.std.specs.Prelude.{ℕ, ◌+◌, ◌<◌, ◌≡◌, List, Bool, true, false, cond, length, get_or, drop, Err, None, Option, Result, Some}
use Rattle.iff.specs.Files.{PerFile}
use Rattle.iff.specs.Tables.{Row}
use Rattle.iff.specs.Times.{minutes_of}
use Rattle.iff.specs.Words.{named, station_zone}
use Rattle.iff.specs.declared.Reason.TheVariants.{NotSound}
use Rattle.iff_desk.specs.Sound.{sound, rows_of_tables}
use Rattle.iff_desk.specs.Store.{no_row, group_of, service_rows, stop_at, station_row, day_on, number_on, holds, period_at, is_there}
use Rattle.iff_desk.specs.Running.{asked}
use Rattle.iff_desk.specs.Stops.{arrival_of, departure_of, time_by, days_later, times_told, is_stop_number, stop_time_after}
use Rattle.iff_desk.specs.Changing.{Side, call_of, best_between, core_by, precheck, change_after}
use Rattle.iff_desk.specs.declared.Call.{Call}
use Rattle.iff_desk.specs.declared.Change.{Change}
use Rattle.iff.specs.declared.Reason.{Reason}
use Rattle.iff_desk.specs.declared.Moment.{Moment}
use Rattle.iff_desk.specs.declared.StopTimes.{StopTimes}

-- a time as written, by the period of the service day; 15 where there is none, also of a stop that has no such time
abbrev pub told_only : Row → Option ℕ → Option (Option Moment)
told_only p m = cond (is_there p) (Some (time_by p m)) None

unfoldable pub told_before : PerFile (List Row) → ℕ → ℕ → ℕ → Option (Option Moment)
told_before R station number t = told_only (period_at R station number) (minutes_of t)

abbrev pub arrival_before : PerFile (List Row) → Row → ℕ → Option (Option Moment)
arrival_before R r d = told_before R (named r) (number_on R d) (arrival_of r)

abbrev pub departure_before : PerFile (List Row) → Row → ℕ → Option (Option Moment)
departure_before R r d = told_before R (named r) (number_on R d) (departure_of r)

-- the two questions by it
unfoldable pub stop_time_in_before : PerFile (List Row) → ℕ → ℕ → ℕ → Result StopTimes Reason
stop_time_in_before R s i date =
    let rs = service_rows R s in
    let r = stop_at rs i in
    let d = day_on R date in
    stop_time_after (asked R s (is_stop_number rs i) date) (times_told (named r) (arrival_before R r d) (departure_before R r d))

abbrev pub stop_times_before : Bool → PerFile (List Row) → ℕ → ℕ → ℕ → Result StopTimes Reason
stop_times_before false R s i date = Err NotSound
stop_times_before true R s i date = stop_time_in_before R s i date

unfoldable pub stop_time_before : PerFile (List ℕ) → ℕ → ℕ → ℕ → Result StopTimes Reason
stop_time_before T s i date = stop_times_before (sound T) (rows_of_tables T) s i date

unfoldable pub core_before : PerFile (List Row) → Call → Call → Result Change Reason
core_before R A B =
    core_by R A B (arrival_before R (stop_at (service_rows R A.service) A.stop) A.day)
    (departure_before R (stop_at (service_rows R B.service) B.stop) B.day) (best_between R A B)

abbrev pub change_in_before : Bool → PerFile (List Row) → Side → Side → Result Change Reason
change_in_before false R A B = Err NotSound
change_in_before true R A B = change_after (precheck R A B) (core_before R (call_of R A) (call_of R B))

unfoldable pub change_before : PerFile (List ℕ) → Side → Side → Result Change Reason
change_before T A B = change_in_before (sound T) (rows_of_tables T) A B

-- "where one period covers both days": the service day and that of a time as written, by the service day's number; no time has no other day
abbrev pub periods_of : PerFile (List Row) → ℕ → List Row
periods_of R station = drop 1 (group_of (station_zone (station_row R station)) R.timezone)

pub record OnePeriod (R : PerFile (List Row)) (station number t : ℕ) : Type 0 where
  pub place : ℕ
  pub inside : place < length (periods_of R station)
  pub service_day : holds number (get_or (periods_of R station) place no_row) ≡ true
  pub own_day : holds (number + days_later (minutes_of t)) (get_or (periods_of R station) place no_row) ≡ true
