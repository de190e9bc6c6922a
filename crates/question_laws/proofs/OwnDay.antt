-- Request W2: where one period covers the service day and the day of the time, stop times and changes are what they were. Assumes nothing.
use Rattle.std.specs.Prelude.{None, Option, Some}
use Prim.Native.Nat.{ℕ, ◌+◌, ◌/◌, ◌<◌}
use mathlib.Core.Path.{◌≡◌, refl}
use mathlib.Core.List.{List}
use mathlib.Core.Bool.{Bool, true, false}
use native.Mathlib.Omega.{arith}
use lib.ListN.{get_or}
use Rattle.iff.specs.Files.{PerFile}
use Rattle.iff.specs.Tables.{Row}
use Rattle.iff.specs.Times.{minutes_of}
use Rattle.iff.specs.Words.{named, station_zone}
use Rattle.iff_desk.specs.Sound.{sound, rows_of_tables}
use Rattle.iff_desk.specs.Store.{no_row, service_rows, stop_at, station_row, day_on, number_on, is_there}
use Rattle.iff_desk.specs.Stops.{arrival_of, departure_of, days_later, told_by, told_on, stop_times, stop_time, stop_time_in}
use Rattle.iff_desk.specs.Changing.{Side, core_change, change_in, change}
use Rattle.sound_facts.proofs.SoundFacts.{one_period, period_is_there}
use Rattle.question_laws.specs.ServiceDay.{told_only, told_before, stop_time_in_before, stop_times_before, stop_time_before, core_before, change_in_before}
use Rattle.question_laws.specs.ServiceDay.{change_before, periods_of, OnePeriod}

-- ONE TIME
-- by a period that is there both rules tell it
both_tell : (p : Row) (m : Option ℕ) → is_there p ≡ true → told_by p m ≡ told_only p m
both_tell p (Some m) e = refl
both_tell p None e = rw e

module _ (T : PerFile (List ℕ)) (s : sound T ≡ true) (station number t : ℕ) (h : OnePeriod (rows_of_tables T) station number t) where
  abbrev zone : ℕ
  zone = station_zone (station_row (rows_of_tables T) station)

  pub time_stays : told_on (rows_of_tables T) station number t ≡ told_before (rows_of_tables T) station number t
  unfolding told_on told_before
  time_stays =
      rw (
        one_period T s zone (number + days_later (minutes_of t)) h.place h.inside h.own_day,
        one_period T s zone number h.place h.inside
            h.service_day,
      )
      (both_tell (get_or (periods_of (rows_of_tables T) station) h.place no_row) (minutes_of t) (period_is_there T s zone h.place h.inside))

-- a time before 24:00 stays whether or not there is a period
pub same_day_stays : (R : PerFile (List Row)) (station number t m : ℕ) → minutes_of t ≡ Some m → m < 1440
    → told_on R station number t ≡ told_before R station number t
unfolding told_on told_before
same_day_stays R station number t m e h =
    let z : number + m / 1440 ≡ number = omega (arith, h) in
    rw (e, z)

-- STOP TIME
module _ (T : PerFile (List ℕ)) (s i date : ℕ) where
  abbrev stop : Row
  stop = stop_at (service_rows (rows_of_tables T) s) i

  abbrev day : ℕ
  day = number_on (rows_of_tables T) (day_on (rows_of_tables T) date)

  pub stop_time_stays : OnePeriod (rows_of_tables T) (named stop) day (arrival_of stop) → OnePeriod (rows_of_tables T) (named stop) day (departure_of stop)
      → stop_time T s i date ≡ stop_time_before T s i date
  unfolding stop_time stop_time_before stop_time_in stop_time_in_before
  stop_time_stays a d = go (sound T) refl
    where
      go : (b : Bool) → sound T ≡ b → stop_times b (rows_of_tables T) s i date ≡ stop_times_before b (rows_of_tables T) s i date
      go true e = rw (time_stays T e (named stop) day (arrival_of stop) a, time_stays T e (named stop) day (departure_of stop) d)
      go false e = refl

-- CHANGE
module _ (T : PerFile (List ℕ)) (A B : Side) where
  abbrev stop_of : Side → Row
  stop_of X = stop_at (service_rows (rows_of_tables T) X.service) X.stop

  abbrev day_of : Side → ℕ
  day_of X = number_on (rows_of_tables T) (day_on (rows_of_tables T) X.date)

  pub change_stays : OnePeriod (rows_of_tables T) (named (stop_of A)) (day_of A) (arrival_of (stop_of A))
      → OnePeriod (rows_of_tables T) (named (stop_of B)) (day_of B) (departure_of (stop_of B)) → change T A B ≡ change_before T A B
  unfolding change change_before core_change core_before
  change_stays a d = go (sound T) refl
    where
      go : (b : Bool) → sound T ≡ b → change_in b (rows_of_tables T) A B ≡ change_in_before b (rows_of_tables T) A B
      go true e =
          rw (time_stays T e (named (stop_of A)) (day_of A) (arrival_of (stop_of A)) a, time_stays T e (named (stop_of B)) (day_of B) (departure_of (stop_of B)) d)
      go false e = refl
