-- The day of a question, and its answer by the times of that day. Assumes nothing.
use Rattle.std.specs.Prelude.{Err, None, Ok, Option, Result, Some}
use Prim.Native.Nat.{ℕ}
use mathlib.Core.Path.{◌≡◌, refl, ap, sym, ◌∙◌}
use mathlib.Core.List.{List, [], ◌∷◌}
use mathlib.Core.Bool.{Bool, true, false, not, true≢false}
use Rattle.iff.specs.Days.{day_of}
use Rattle.iff.specs.Files.{PerFile}
use Rattle.iff.specs.Refusals.{first_test, unless, passing, Test}
use Rattle.iff.specs.Tables.{Row}
use Rattle.iff.specs.Words.{named}
use Rattle.iff.specs.declared.Reason.{Reason}
use Rattle.iff.specs.declared.Reason.TheVariants.{NoService, NoStop, NoDate, NoPeriod}
use Rattle.iff_laws.specs.DateLaws.{day_counted}
use Rattle.iff_desk.specs.Store.{service_rows, is_empty, stop_at, is_valid, day_on, day_number, number_on}
use Rattle.iff_desk.specs.Running.{asked}
use Rattle.iff_desk.specs.Stops.{arrival_of, departure_of, told_on, is_stop_number, stop_time_in}
use Rattle.stop_times.specs.Times.{times_there}
use Rattle.iff_desk.specs.declared.Moment.{Moment}
use Rattle.iff_desk.specs.declared.StopTimes.{StopTimes}

-- A DAY OF VALIDITY, counted from the first day and by its number
number_on_lem : (R : PerFile (List Row)) (date : ℕ) → is_valid R date ≡ true → number_on R (day_on R date) ≡ day_number (day_of date)
number_on_lem R date e = sym (ap day_number (day_counted R date e))

-- a question that is not refused has a date of validity
valid_asked : (a b v : Bool) → Ok tt ≡ first_test (unless a NoService ∷ unless b NoStop ∷ unless v NoDate ∷ []) → v ≡ true
unfolding first_test
valid_asked true true true e = refl
valid_asked true true false e = absurd (true≢false (ap passing e))
valid_asked true false v e = absurd (true≢false (ap passing e))
valid_asked false b v e = absurd (true≢false (ap passing e))

pub asked_valid : (R : PerFile (List Row)) (s : ℕ) (right : Bool) (date : ℕ) → Ok tt ≡ asked R s right date → is_valid R date ≡ true
unfolding asked
asked_valid R s right date e = valid_asked (not (is_empty (service_rows R s))) right (is_valid R date) e

-- STOP TIME
module _ (R : PerFile (List Row)) (s i date : ℕ) (rs : List Row) (e : service_rows R s ≡ rs) (right : Bool) (f : right ≡ is_stop_number rs i)
    (a : Test) (q : a ≡ asked R s right date) where
  pub times_refused : (r : Reason) → a ≡ Err r → Err r ≡ stop_time_in R s i date
  unfolding stop_time_in
  times_refused r g = rw (e, ← f, ← q, g)

  pub times_told_lem : a ≡ Ok tt → (row : Row) → stop_at rs i ≡ row → (t : Result StopTimes Reason) → t ≡ times_there R row (day_number (day_of date)) → t ≡ stop_time_in R s i date
  unfolding stop_time_in times_there
  times_told_lem g row k t h =
      let v = asked_valid R s right date (sym g ∙ q) in
      h ∙ rw (e, ← f, ← q, g, k, number_on_lem R date v)

-- the times, each told by itself
module _ (R : PerFile (List Row)) (r : Row) (number station day : ℕ) (n : station ≡ named r) (d : day ≡ number) (a u : Option (Option Moment))
    (p : a ≡ told_on R station day (arrival_of r)) (q : u ≡ told_on R station day (departure_of r)) where
  pub no_arrival : a ≡ None → Err NoPeriod ≡ times_there R r number
  unfolding times_there
  no_arrival e = rw (← n, ← d, ← p, e)

  pub no_departure : (x : Option Moment) → a ≡ Some x → u ≡ None → Err NoPeriod ≡ times_there R r number
  unfolding times_there
  no_departure x e f = rw (← n, ← d, ← p, ← q, e, f)

  pub both_told : (x y : Option Moment) → a ≡ Some x → u ≡ Some y
      → Ok (record { station = station; arrival = x; departure = y }) ≡ times_there R r number
  unfolding times_there
  both_told x y e f = rw (← n, ← d, ← p, ← q, e, f)
