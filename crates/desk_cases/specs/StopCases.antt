-- "Stop time: service, stop, date: station, local and reference arrival and departure, each perhaps none. 12, 13, 14, 15."
use Prim.{tt}
use Rattle.std.specs.Prelude.{ℕ, refl, List, [], ◌∷◌, ℤ, pos, negsuc, Err, None, Ok, Option, Result}
use Rattle.iff.specs.Files.{per_file}
use Rattle.iff.specs.declared.Reason.TheVariants.{NoService, NoStop, NoDate, NotSound}
use Rattle.iff_desk.specs.Stops.{stop_time}
use Rattle.small_delivery.specs.Claims.{Claim, claim, Hold}
use Rattle.small_delivery.specs.Opened.{opened}
use Rattle.small_delivery.specs.Stored.{stored, tampered, AAA, BBB, CCC}
use Rattle.iff.specs.declared.Reason.{Reason}
use Rattle.iff_desk.specs.Answers.{moment_of}
use Rattle.iff_desk.specs.declared.Moment.{Moment}
use Rattle.iff_desk.specs.declared.StopTimes.{StopTimes}

-- a time on the zone's clock and on the reference clock
abbrev pub time : ℤ → ℤ → Option Moment
time local reference = moment_of (record { 0 = local }) (record { 0 = reference })

-- station, arrival and departure
abbrev pub times : ℕ → Option Moment → Option Moment → Result StopTimes Reason
times station arrival departure = Ok (record { station = station; arrival = arrival; departure = departure })

-- each answer
abbrev pub stop_times : List Claim
stop_times =
    -- zone +01; `>` has no arrival
    claim "the first stop" (stop_time stored 7 1 1011615) (times AAA None (time (pos 210) (pos 150))) ∷
    -- `+`: 2430 and 2510
    claim "a stop between" (stop_time stored 7 2 1011615) (times CCC (time (pos 1470) (pos 1410)) (time (pos 1510) (pos 1450))) ∷
    -- `<` has no departure
    claim "the last stop" (stop_time stored 7 3 1011615) (times AAA (time (pos 1560) (pos 1500)) None) ∷
    -- by the period that holds the day: +01 up to 05011615, +02 from 06011615 (times past midnight: Borders, ClockCases)
    claim "the last day of a period" (stop_time stored 7 1 5011615) (times AAA None (time (pos 210) (pos 150))) ∷
    claim "the first day of the next" (stop_time stored 7 1 6011615) (times AAA None (time (pos 210) (pos 90))) ∷
    -- `.` gives both; zone -01
    claim "both times in a zone behind" (stop_time stored 8 2 1011615) (times BBB (time (pos 120) (pos 180)) (time (pos 120) (pos 180))) ∷
    -- "It does not ask whether the service runs."; a reference before midnight
    claim "a day on which it rests" (stop_time stored 8 1 2011615) (times CCC None (time (pos 30) (negsuc 29))) ∷
    claim "the last day" (stop_time stored 8 1 10011615) (times CCC None (time (pos 30) (negsuc 89))) ∷
    -- `+` with 9999: nobody alights
    claim "no arrival" (stop_time stored 9 2 1011615) (times CCC None (time (pos 150) (pos 90))) ∷
    -- `+` with 9999: nobody boards
    claim "no departure" (stop_time stored 9 3 1011615) (times AAA (time (pos 180) (pos 120)) None) ∷
    -- zone -01, before a platform record
    claim "the last stop in a zone behind" (stop_time stored 9 4 9011615) (times BBB (time (pos 240) (pos 300)) None) ∷
    []

pub stop_times_hold : Hold stop_times
unfolding opened
stop_times_hold = (refl, (refl, (refl, (refl, (refl, (refl, (refl, (refl, (refl, (refl, (refl, tt)))))))))))

-- 12, 13, 14 and 16 (15: Borders)
abbrev pub refusals : List Claim
refusals =
    claim "no such service" (stop_time stored 6 1 1011615) (Err NoService) ∷
    claim "stop 0" (stop_time stored 7 0 1011615) (Err NoStop) ∷
    -- a `;` has no number
    claim "stop 4 of three" (stop_time stored 7 4 1011615) (Err NoStop) ∷
    claim "outside validity" (stop_time stored 7 1 11011615) (Err NoDate) ∷
    claim "not a date" (stop_time stored 7 1 31041615) (Err NoDate) ∷
    claim "12 before the rest" (stop_time stored 6 0 0) (Err NoService) ∷
    claim "13 before 14" (stop_time stored 8 4 0) (Err NoStop) ∷
    -- "test 16 first"
    claim "empty tables" (stop_time (per_file (λ f. [])) 6 0 0) (Err NotSound) ∷
    claim "one word that should be zero" (stop_time tampered 7 1 1011615) (Err NotSound) ∷
    []

pub refusals_hold : Hold refusals
unfolding opened
refusals_hold = (refl, (refl, (refl, (refl, (refl, (refl, (refl, (refl, (refl, tt)))))))))
