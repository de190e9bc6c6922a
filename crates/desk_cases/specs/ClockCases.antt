-- Request W2, the clocks change at sea: "the period holding the day of the stop's own time: service day plus local minutes divided by 1440, rounded
-- down, for arrival and departure each". The small delivery's tables in the spring of 2015: the night of 28 to 29 March, Saturday to Sunday.
use Prim.{tt}
use Rattle.std.specs.Prelude.{ℕ, ◌+◌, refl, List, [], ◌∷◌, true, false, pos, Err, None, Ok}
use Rattle.iff.specs.Files.{PerFile}
use Rattle.iff.specs.Tables.{Row}
use Rattle.iff.specs.Times.{minutes_of}
use Rattle.iff.specs.declared.GroupFile.TheVariants.{Timezone, Xchanges}
use Rattle.iff.specs.declared.File.TheVariants.{Groups, Timetbls}
use Rattle.iff.specs.declared.Reason.TheVariants.{NoDate, NoPeriod}
use Rattle.iff_desk.specs.Sound.{sound}
use Rattle.iff_desk.specs.Store.{holds}
use Rattle.iff_desk.specs.Stops.{days_later, stop_time}
use Rattle.iff_desk.specs.Changing.{change}
use Rattle.iff_desk.specs.declared.Early.TheVariants.{FromRests}
use Rattle.iff_desk.specs.declared.Source.TheVariants.{FromChanges, FromXchanges}
use Rattle.iff_desk.specs.declared.Change.TheVariants.{NoBefore, NoShort, Yes}
use Rattle.small_delivery.specs.Claims.{Claim, claim, Hold}
use Rattle.small_delivery.specs.Opened.{opened}
use Rattle.small_delivery.specs.Stored.{stored, reword, reword_firsts, AAA, BBB, CCC}
use Rattle.desk_cases.specs.StopCases.{time, times}
use Rattle.desk_cases.specs.ChangeCases.{side}

-- a zone's row of TIMEZONE: its period, from and to
abbrev spell : ℕ → ℕ → ℕ → PerFile (List ℕ) → PerFile (List ℕ)
spell row first last T = reword (Groups Timezone) row 2 first (reword (Groups Timezone) row 3 last T)

-- ten days of 2015 from 24032015 on; zone 0000 is +01 to 28032015 and +02 from 29032015, zone 0001 is -01
abbrev spring : PerFile (List ℕ)
spring = reword_firsts 2 24032015 (reword_firsts 3 2042015 (spell 2 1012015 28032015 (spell 3 29032015 31122015 (spell 5 1012015 31122015 stored))))

-- the night boat, service 7: from AAA at 2200, at CCC from 2430 to 2510, at AAA again at 3100; service 9 leaves AAA at 0730
abbrev sea : PerFile (List ℕ)
sea = reword Timetbls 6 2 2200 (reword Timetbls 10 2 3100 (reword Timetbls 27 3 730 spring))

-- the boat's last arrival, its stop at CCC, and the other service's departure from AAA at other times
abbrev landing : ℕ → PerFile (List ℕ) → PerFile (List ℕ)
landing t T = reword Timetbls 10 2 t T

abbrev calling : ℕ → ℕ → PerFile (List ℕ) → PerFile (List ℕ)
calling arrival departure T = reword Timetbls 9 2 arrival (reword Timetbls 9 3 departure T)

abbrev leaving : ℕ → PerFile (List ℕ) → PerFile (List ℕ)
leaving t T = reword Timetbls 27 3 t T

-- zone 0000's second period begins on another day of 2015
abbrev from : ℕ → PerFile (List ℕ)
from first = reword (Groups Timezone) 3 2 first sea

-- or its first one ends on another day
abbrev up_to : ℕ → PerFile (List ℕ)
up_to last = reword (Groups Timezone) 2 3 last sea

-- no period of zone 0000 after 28032015 within the validity
abbrev ended : PerFile (List ℕ)
ended = from 1052015

-- STOP TIMES
abbrev pub boat : List Claim
boat =
    claim "the tables are sound" (sound sea) true ∷
    claim "2200 on Saturday" (stop_time sea 7 1 28032015) (times AAA None (time (pos 1320) (pos 1260))) ∷
    -- 1860 - 120; by the service day it was 1800
    claim "3100, on Sunday" (stop_time sea 7 3 28032015) (times AAA (time (pos 1860) (pos 1740)) None) ∷
    claim "a day earlier, on Saturday" (stop_time sea 7 3 27032015) (times AAA (time (pos 1860) (pos 1800)) None) ∷
    claim "2200 on Sunday" (stop_time sea 7 1 29032015) (times AAA None (time (pos 1320) (pos 1200))) ∷
    claim "2430 and 2510, both on Sunday" (stop_time sea 7 2 28032015) (times CCC (time (pos 1470) (pos 1350)) (time (pos 1510) (pos 1390))) ∷
    -- "for arrival and departure each": the clock is put forward between them, and the reference clock shows the departure first
    claim "2350 on Saturday, 2410 on Sunday" (stop_time (calling 2350 2410 sea) 7 2 28032015)
    (times CCC (time (pos 1430) (pos 1370)) (time (pos 1450) (pos 1330))) ∷
    -- `>` has no arrival
    claim "a first stop past midnight" (stop_time (reword Timetbls 6 2 2430 sea) 7 1 28032015) (times AAA None (time (pos 1470) (pos 1350))) ∷
    -- 14 asks for the service day alone
    claim "the last day, and the day after" (stop_time sea 7 3 2042015) (times AAA (time (pos 1860) (pos 1740)) None) ∷
    claim "a service day after the last" (stop_time sea 7 3 3042015) (Err NoDate) ∷
    []

pub boat_hold : Hold boat
unfolding opened
boat_hold = (refl, (refl, (refl, (refl, (refl, (refl, (refl, (refl, (refl, (refl, tt))))))))))

-- "divided by 1440, rounded down": to the minute, and up to the fourth day after
abbrev pub days : List Claim
days =
    claim "2359 is the service day" (stop_time (landing 2359 sea) 7 3 28032015) (times AAA (time (pos 1439) (pos 1379)) None) ∷
    claim "2400 is the next" (stop_time (landing 2400 sea) 7 3 28032015) (times AAA (time (pos 1440) (pos 1320)) None) ∷
    claim "4759 is the next" (stop_time (landing 4759 (from 30032015)) 7 3 28032015) (Err NoPeriod) ∷
    claim "4800 is the second" (stop_time (landing 4800 (from 30032015)) 7 3 28032015) (times AAA (time (pos 2880) (pos 2760)) None) ∷
    claim "9559 is the third" (stop_time (landing 9559 (from 1042015)) 7 3 28032015) (Err NoPeriod) ∷
    claim "9600 is the fourth" (stop_time (landing 9600 (from 1042015)) 7 3 28032015) (times AAA (time (pos 5760) (pos 5640)) None) ∷
    claim "9959 is the fourth" (stop_time (landing 9959 (from 1042015)) 7 3 28032015) (times AAA (time (pos 5999) (pos 5879)) None) ∷
    claim "and no fifth" (stop_time (landing 9959 (from 2042015)) 7 3 28032015) (Err NoPeriod) ∷
    []

pub days_hold : Hold days
unfolding opened
days_hold = (refl, (refl, (refl, (refl, (refl, (refl, (refl, (refl, tt))))))))

-- "15 now speaks of that day"
abbrev pub no_period_then : List Claim
no_period_then =
    claim "2359 on the period's last day" (stop_time (landing 2359 ended) 7 3 28032015) (times AAA (time (pos 1439) (pos 1379)) None) ∷
    claim "2400 on it" (stop_time (landing 2400 ended) 7 3 28032015) (Err NoPeriod) ∷
    -- the service day lies in no period, and the time's own day does
    claim "a service day in no period" (stop_time (up_to 27032015) 7 3 28032015) (times AAA (time (pos 1860) (pos 1740)) None) ∷
    claim "and a time on it" (stop_time (up_to 27032015) 7 1 28032015) (Err NoPeriod) ∷
    -- the arrival has a period, the departure none; and the other way round
    claim "the departure's day" (stop_time (calling 2350 2410 ended) 7 2 28032015) (Err NoPeriod) ∷
    claim "the arrival's day" (stop_time (calling 2350 2410 (up_to 27032015)) 7 2 28032015) (Err NoPeriod) ∷
    -- no time asks for no period
    claim "a first stop has no arrival" (stop_time (reword Timetbls 6 2 2430 (up_to 27032015)) 7 1 28032015)
    (times AAA None (time (pos 1470) (pos 1350))) ∷
    claim "nobody boards" (stop_time (calling 2350 9999 ended) 7 2 28032015) (times CCC (time (pos 1430) (pos 1370)) None) ∷
    claim "nobody alights" (stop_time (calling 9999 2410 (up_to 27032015)) 7 2 28032015) (times CCC None (time (pos 1450) (pos 1330))) ∷
    -- `.` has one time and one day; by the zone of its own station
    claim "2400 at a stop in another zone" (stop_time (reword Timetbls 17 2 2400 ended) 8 2 28032015)
    (times BBB (time (pos 1440) (pos 1500)) (time (pos 1440) (pos 1500))) ∷
    claim "and where that zone has no period" (stop_time (reword Timetbls 17 2 2400 (spell 5 1012015 28032015 sea)) 8 2 28032015)
    (Err NoPeriod) ∷
    []

pub no_period_then_hold : Hold no_period_then
unfolding opened
no_period_then_hold = (refl, (refl, (refl, (refl, (refl, (refl, (refl, (refl, (refl, (refl, (refl, tt)))))))))))

-- days after 31129999 have numbers and lie in no period; 31129999 is day 3068036
abbrev to_the_end : Row
to_the_end = 43 ∷ 1 ∷ 1019999 ∷ 31129999 ∷ 0 ∷ 0 ∷ []

abbrev pub no_day_after : List Claim
no_day_after =
    claim "2359 on the last day of all" (holds (3068036 + days_later (minutes_of 2359)) to_the_end) true ∷
    claim "2400 on it" (holds (3068036 + days_later (minutes_of 2400)) to_the_end) false ∷
    []

pub no_day_after_hold : Hold no_day_after
unfolding opened
no_day_after_hold = (refl, (refl, tt))

-- CHANGES: from the boat to service 9 at AAA, which needs so many minutes
abbrev needing : ℕ → PerFile (List ℕ) → PerFile (List ℕ)
needing n T = reword (Groups Xchanges) 4 5 n T

abbrev pub changes : List Claim
changes =
    -- 330 + 1440 - 1740; by the service day it was -30. The exception's vector has A's service day and not the day after
    claim "gap 30, needed 30" (change (needing 30 sea) (side 7 3 28032015) (side 9 3 29032015)) (Ok (Yes (pos 30) FromXchanges 30)) ∷
    claim "gap 30, needed 31" (change (needing 31 sea) (side 7 3 28032015) (side 9 3 29032015)) (Ok (NoShort (pos 30) FromXchanges 31)) ∷
    -- B's departure on its own day: 450 - 60 of Saturday, and 2430 on Sunday: 1470 - 120
    claim "a day earlier" (change (needing 30 sea) (side 7 3 27032015) (side 9 3 28032015)) (Ok (Yes (pos 30) FromXchanges 30)) ∷
    claim "B departs past midnight" (change (needing 30 (leaving 2430 sea)) (side 7 3 27032015) (side 9 3 28032015)) (Ok (Yes (pos 990) FromXchanges 30)) ∷
    -- running days are service days: service 8 arrives at BBB on Sunday, on a leg that has Saturday's mark and not Sunday's; 120 + 1440 - 1500
    claim "A ran on Saturday" (change (reword Timetbls 17 2 2400 sea) (side 8 2 28032015) (side 9 1 29032015)) (Ok (Yes (pos 60) FromChanges 0)) ∷
    claim "A rests on Sunday" (change (reword Timetbls 17 2 2400 sea) (side 8 2 29032015) (side 9 1 30032015)) (Ok (NoBefore FromRests)) ∷
    -- 15 for the day of A's arrival, and for that of B's departure
    claim "no period when A arrives" (change ended (side 7 3 28032015) (side 9 3 28032015)) (Err NoPeriod) ∷
    claim "no period when B departs" (change (leaving 2430 ended) (side 7 3 27032015) (side 9 3 28032015)) (Err NoPeriod) ∷
    claim "a period for both" (change (needing 30 ended) (side 7 3 27032015) (side 9 3 28032015)) (Ok (Yes (pos 30) FromXchanges 30)) ∷
    -- A's service day lies in no period; its arrival and B's departure do
    claim "a service day in no period" (change (needing 30 (up_to 27032015)) (side 7 3 28032015) (side 9 3 29032015)) (Ok (Yes (pos 30) FromXchanges 30)) ∷
    []

pub changes_hold : Hold changes
unfolding opened
changes_hold = (refl, (refl, (refl, (refl, (refl, (refl, (refl, (refl, (refl, (refl, tt))))))))))
