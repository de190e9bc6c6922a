-- Borders that stand by themselves: periods that leave days out, times past midnight, one stop for first and last, attributes of any code.
use Prim.{tt}
use Rattle.std.specs.Prelude.{ℕ, refl, List, [], ◌∷◌, true, pos, negsuc, Err, None, Ok}
use Rattle.iff.specs.Files.{PerFile}
use Rattle.iff.specs.declared.GroupFile.TheVariants.{Timezone}
use Rattle.iff.specs.declared.File.TheVariants.{Groups, Timetbls}
use Rattle.iff.specs.declared.Reason.TheVariants.{NoService, NoStop, NoDate, NoPeriod}
use Rattle.iff_desk.specs.Sound.{sound}
use Rattle.iff_desk.specs.Stops.{stop_time}
use Rattle.iff_desk.specs.Changing.{change}
use Rattle.iff_desk.specs.declared.Early.TheVariants.{StationsDiffer}
use Rattle.iff_desk.specs.declared.Source.TheVariants.{FromXchanges}
use Rattle.iff_desk.specs.declared.Change.TheVariants.{NoBefore, NoShort}
use Rattle.small_delivery.specs.Claims.{Claim, claim, Hold}
use Rattle.small_delivery.specs.Opened.{opened}
use Rattle.small_delivery.specs.Delivery.{put, insert, at, edit}
use Rattle.small_delivery.specs.Shown.{accepted, load}
use Rattle.small_delivery.specs.Stored.{stored, reword, AAA, BBB, CCC}
use Rattle.desk_cases.specs.StopCases.{time, times}
use Rattle.desk_cases.specs.ChangeCases.{side}

-- the loaded tables, zone 0001's period ended on 09011615, a day before the last
abbrev ended : PerFile (List ℕ)
ended = reword (Groups Timezone) 5 3 9011615 stored

-- zone 0000's second period begun on 07011615: 06011615 lies in none
abbrev parted : PerFile (List ℕ)
parted = reword (Groups Timezone) 3 2 7011615 stored

-- PERIODS THAT LEAVE DAYS OUT: a load does not ask which days they hold
abbrev pub periods : List Claim
periods =
    claim "both zones end on the last day"
    (load (at (Groups Timezone) (put 6 "-01,01011615,10011615") (edit (Groups Timezone) (put 4 "+02,06011615,10011615"))))
    (accepted 10 3) ∷
    claim "a zone ends before the last day" (load (edit (Groups Timezone) (put 6 "-01,01011615,09011615"))) (accepted 10 3) ∷
    claim "a zone begins after the first day" (load (edit (Groups Timezone) (put 6 "-01,02011615,14011615"))) (accepted 10 3) ∷
    claim "a day between two periods" (load (edit (Groups Timezone) (put 4 "+02,07011615,31121615"))) (accepted 10 3) ∷
    -- nor does soundness
    claim "tables of a zone that ends before" (sound ended) true ∷
    claim "tables of a day between" (sound parted) true ∷
    []

pub periods_hold : Hold periods
unfolding opened
periods_hold = (refl, (refl, (refl, (refl, (refl, (refl, tt))))))

-- "15 no zone period on that day": a stop time
abbrev pub no_period : List Claim
no_period =
    claim "the period's last day" (stop_time ended 8 2 9011615) (times BBB (time (pos 120) (pos 180)) (time (pos 120) (pos 180))) ∷
    claim "the day after" (stop_time ended 8 2 10011615) (Err NoPeriod) ∷
    claim "the same of another service" (stop_time ended 9 1 10011615) (Err NoPeriod) ∷
    -- by the station's own zone
    claim "a stop in another zone" (stop_time ended 8 1 10011615) (times CCC None (time (pos 30) (negsuc 89))) ∷
    claim "a day between two periods" (stop_time parted 7 1 6011615) (Err NoPeriod) ∷
    claim "the day after it" (stop_time parted 7 1 7011615) (times AAA None (time (pos 210) (pos 90))) ∷
    -- "12, 13, 14, 15"
    claim "12 before 15" (stop_time ended 6 2 10011615) (Err NoService) ∷
    claim "13 before 15" (stop_time ended 8 4 10011615) (Err NoStop) ∷
    claim "14 before 15" (stop_time ended 8 2 11011615) (Err NoDate) ∷
    []

pub no_period_hold : Hold no_period
unfolding opened
no_period_hold = (refl, (refl, (refl, (refl, (refl, (refl, (refl, (refl, (refl, tt)))))))))

-- a change: "Then 15."
abbrev pub no_period_in_change : List Claim
no_period_in_change =
    -- also where CHANGES has the pair
    claim "no period on A's date" (change ended (side 9 4 10011615) (side 8 2 9011615)) (Err NoPeriod) ∷
    claim "no period on B's date" (change ended (side 9 4 9011615) (side 8 2 10011615)) (Err NoPeriod) ∷
    -- before flag 0
    claim "no period, and flag 0" (change ended (side 9 4 10011615) (side 9 1 9011615)) (Err NoPeriod) ∷
    -- after the six
    claim "no period, and the stations differ" (change ended (side 9 4 10011615) (side 7 1 10011615)) (Ok (NoBefore StationsDiffer)) ∷
    []

pub no_period_in_change_hold : Hold no_period_in_change
unfolding opened
no_period_in_change_hold = (refl, (refl, (refl, (refl, tt))))

-- by the period that holds the day of the time itself (W2), here of times past midnight: 05011615 is the last day of +01
abbrev pub own_day : List Claim
own_day =
    claim "2600" (stop_time stored 7 3 5011615) (times AAA (time (pos 1560) (pos 1440)) None) ∷
    claim "2430 and 2510" (stop_time stored 7 2 5011615) (times CCC (time (pos 1470) (pos 1350)) (time (pos 1510) (pos 1390))) ∷
    -- 2600 of +02 to 0330 of +02
    claim "a change" (change stored (side 7 3 5011615) (side 7 1 6011615)) (Ok (NoShort (pos 90) FromXchanges 99)) ∷
    -- the day after the service day lies in no period
    claim "2600 before a day in no period" (stop_time parted 7 3 5011615) (Err NoPeriod) ∷
    []

pub own_day_hold : Hold own_day
unfolding opened
own_day_hold = (refl, (refl, (refl, (refl, tt))))

-- "For `*`: 1 ≤ first ≤ last ≤ n.": first may be last
abbrev pub one_stop : List Claim
one_stop =
    claim "`*` at the last stop" (load (edit Timetbls (put 6 "*FIET,003,003,00001"))) (accepted 10 3) ∷
    claim "`*` at stop 000" (load (edit Timetbls (put 6 "*FIET,000,000,00001"))) (accepted 10 3) ∷
    claim "`*` at stop 999" (load (edit Timetbls (put 6 "*FIET,999,999,00001"))) (accepted 10 3) ∷
    claim "two `*` at one stop" (load (edit Timetbls (insert 6 "*BAR ,001,001,00002"))) (accepted 10 3) ∷
    claim "tables of a `*` at one stop" (sound (reword Timetbls 5 3 1 stored)) true ∷
    []

pub one_stop_hold : Hold one_stop
unfolding opened
one_stop_hold = (refl, (refl, (refl, (refl, (refl, tt)))))

-- "The attribute code is not looked up."
abbrev pub attributes : List Claim
attributes =
    claim "another attribute" (load (edit Timetbls (put 6 "*none,001,002,00001"))) (accepted 10 3) ∷
    claim "tables of another attribute" (sound (reword Timetbls 5 1 0x46494520 stored)) true ∷
    []

pub attributes_hold : Hold attributes
unfolding opened
attributes_hold = (refl, (refl, tt))
