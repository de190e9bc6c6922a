-- What is shown of each answer: number and place of a refusal, and the values of an answer.
use Prim.{tt}
use Rattle.std.specs.Prelude.{ℕ, refl, List, [], ◌∷◌, map, Bool, true, false, ℤ, pos, negsuc, Err, None, Ok, Option, Result}
use Rattle.iff.specs.Refusals.{number, Answer, Test, accepted_with, at_place, fault_at}
use Rattle.iff.specs.declared.Reason.{Reason}
use Rattle.iff.specs.declared.Reason.TheVariants.{TooLong, NoRoom, Absent, Layout, Value, FirstLine, Order, Duplicate, Reference, Legs, NotOneBlock}
use Rattle.iff.specs.declared.Reason.TheVariants.{NoService, NoStop, NoDate, NoPeriod, NotSound, NoStation, ShortList}
use Rattle.iff.specs.declared.GroupFile.TheVariants.{Footnote}
use Rattle.iff.specs.declared.File.TheVariants.{Groups, Timetbls}
use Rattle.iff_desk.specs.Answers.{answer_number, answer_place, answer_days, answer_services, part_number, part_place, running_number, running_place}
use Rattle.iff_desk.specs.Answers.{running_shown, stop_time_number, stop_time_place, station_shown, local_shown, reference_shown, arrival_shown}
use Rattle.iff_desk.specs.Answers.{departure_shown, change_number, change_place, Word, no, yes, unsettled, none, verdict, Why, same_service_and_date}
use Rattle.iff_desk.specs.Answers.{from_rests, to_rests, stations_differ, nobody_alights, nobody_boards, pair_00, flag_0, gap_below_needed, why}
use Rattle.iff_desk.specs.Answers.{gap_shown, source_shown, needed_shown}
use Rattle.iff_desk.specs.declared.Early.TheVariants.{SameService, FromRests, ToRests, StationsDiffer, NobodyAlights, NobodyBoards}
use Rattle.iff_desk.specs.declared.Source.{Source}
use Rattle.iff_desk.specs.declared.Source.TheVariants.{FromChanges, FromStations, FromXchanges}
use Rattle.iff_desk.specs.declared.Bar.TheVariants.{Pair00, Flag0}
use Rattle.iff_desk.specs.declared.Change.{Change}
use Rattle.iff_desk.specs.declared.Change.TheVariants.{NoBefore, NoBarred, NoShort, Yes, Unsettled}
use Rattle.small_delivery.specs.Claims.{Claim, claim, Hold}
use Rattle.small_delivery.specs.Opened.{opened}
use Rattle.small_delivery.specs.Shown.{place, FOOTNOTE, TIMETBLS}
use Rattle.small_delivery.specs.Stored.{AAA, CCC}
use Rattle.desk_cases.specs.StopCases.{time, times}
use Rattle.iff_desk.specs.declared.Moment.{Moment}
use Rattle.iff_desk.specs.declared.StopTimes.{StopTimes}

-- "Refusals and their order": the numbers, in the order in which the reasons are declared
abbrev reasons : List Reason
reasons =
    TooLong ∷ NoRoom ∷ Absent ∷ Layout ∷ Value ∷ FirstLine ∷ Order ∷ Duplicate ∷ Reference ∷ Legs ∷ NotOneBlock ∷ NoService ∷ NoStop
    ∷ NoDate ∷ NoPeriod ∷ NotSound ∷ NoStation ∷ ShortList ∷ []

-- the place of refusals 11 to 17, and of an answer
abbrev zeros : List ℕ
zeros = 0 ∷ 0 ∷ 0 ∷ []

-- a load or an amendment: number, place, days, services
abbrev loaded : Answer → ℕ × List ℕ × ℕ × ℕ
loaded a = (answer_number a, place (answer_place a), answer_days a, answer_services a)

-- name and lines now: number, place
abbrev part : Test → ℕ × List ℕ
part t = (part_number t, place (part_place t))

abbrev pub refusals : List Claim
refusals =
    claim "the numbers" (map number reasons) (1 ∷ 2 ∷ 3 ∷ 4 ∷ 5 ∷ 6 ∷ 7 ∷ 8 ∷ 9 ∷ 10 ∷ 11 ∷ 12 ∷ 13 ∷ 14 ∷ 15 ∷ 16 ∷ 17 ∷ 23 ∷ []) ∷
    -- "an accepted load or amendment answers days and services"
    claim "accepted" (loaded (accepted_with 364 17)) (0, zeros, 364, 17) ∷
    claim "refused at a file" (loaded (fault_at NoRoom (at_place Timetbls 0 0))) (2, TIMETBLS ∷ 0 ∷ 0 ∷ [], 0, 0) ∷
    claim "refused at a line" (loaded (fault_at Value (at_place (Groups Footnote) 0 3))) (5, FOOTNOTE ∷ 0 ∷ 3 ∷ [], 0, 0) ∷
    claim "refused at a block's line" (loaded (fault_at Reference (at_place Timetbls 1 6))) (9, TIMETBLS ∷ 1 ∷ 6 ∷ [], 0, 0) ∷
    -- "11-17 .. 0, 0, 0"
    claim "an amendment refused 11" (loaded (fault_at NotOneBlock None)) (11, zeros, 0, 0) ∷
    claim "an amendment refused 12" (loaded (fault_at NoService None)) (12, zeros, 0, 0) ∷
    claim "an amendment refused 16" (loaded (fault_at NotSound None)) (16, zeros, 0, 0) ∷
    claim "a part" (part (Ok tt)) (0, zeros) ∷
    claim "no lines now" (part (Err NoService)) (12, zeros) ∷
    claim "no name" (part (Err NoStation)) (17, zeros) ∷
    []

pub refusals_hold : Hold refusals
unfolding opened
refusals_hold = (refl, (refl, (refl, (refl, (refl, (refl, (refl, (refl, (refl, (refl, (refl, tt)))))))))))

-- running day: number, place, whether the service runs
abbrev running : Result Bool Reason → ℕ × List ℕ × List Bool
running r = (running_number r, place (running_place r), running_shown r)

abbrev pub runnings : List Claim
runnings =
    claim "it runs" (running (Ok true)) (0, zeros, true ∷ []) ∷
    claim "it rests" (running (Ok false)) (0, zeros, false ∷ []) ∷
    claim "12" (running (Err NoService)) (12, zeros, []) ∷
    claim "13" (running (Err NoStop)) (13, zeros, []) ∷
    claim "14" (running (Err NoDate)) (14, zeros, []) ∷
    claim "16" (running (Err NotSound)) (16, zeros, []) ∷
    []

pub runnings_hold : Hold runnings
unfolding opened
runnings_hold = (refl, (refl, (refl, (refl, (refl, (refl, tt))))))

-- stop time: number, place, station, local and reference arrival, local and reference departure
abbrev clocks : Option Moment → List ℤ × List ℤ
clocks t = (local_shown t, reference_shown t)

abbrev stopping : Result StopTimes Reason → ℕ × List ℕ × List ℕ × (List ℤ × List ℤ) × (List ℤ × List ℤ)
stopping t = (stop_time_number t, place (stop_time_place t), station_shown t, clocks (arrival_shown t), clocks (departure_shown t))

abbrev no_times : List ℤ × List ℤ
no_times = ([], [])

abbrev pub stop_times : List Claim
stop_times =
    claim "both times" (stopping (times CCC (time (pos 1470) (pos 1410)) (time (pos 1510) (pos 1450))))
    (0, zeros, CCC ∷ [], (pos 1470 ∷ [], pos 1410 ∷ []), (pos 1510 ∷ [], pos 1450 ∷ [])) ∷
    -- "each perhaps none"
    claim "no arrival" (stopping (times CCC None (time (pos 30) (negsuc 29)))) (0, zeros, CCC ∷ [], no_times, (pos 30 ∷ [], negsuc 29 ∷ [])) ∷
    claim "no departure" (stopping (times AAA (time (pos 1560) (pos 1500)) None))
    (0, zeros, AAA ∷ [], (pos 1560 ∷ [], pos 1500 ∷ []), no_times) ∷
    claim "12" (stopping (Err NoService)) (12, zeros, [], no_times, no_times) ∷
    claim "13" (stopping (Err NoStop)) (13, zeros, [], no_times, no_times) ∷
    claim "14" (stopping (Err NoDate)) (14, zeros, [], no_times, no_times) ∷
    claim "15" (stopping (Err NoPeriod)) (15, zeros, [], no_times, no_times) ∷
    claim "16" (stopping (Err NotSound)) (16, zeros, [], no_times, no_times) ∷
    []

pub stop_times_hold : Hold stop_times
unfolding opened
stop_times_hold = (refl, (refl, (refl, (refl, (refl, (refl, (refl, (refl, tt))))))))

-- change: number, place, the word, why; and gap, source and needed time
abbrev worded : Result Change Reason → ℕ × List ℕ × Word × List Why
worded c = (change_number c, place (change_place c), verdict c, why c)

abbrev reached : Result Change Reason → List ℤ × List Source × List ℕ
reached c = (gap_shown c, source_shown c, needed_shown c)

-- "A No shows its reason."
abbrev pub words : List Claim
words =
    claim "the same service and date" (worded (Ok (NoBefore SameService))) (0, zeros, no, same_service_and_date ∷ []) ∷
    claim "A rests" (worded (Ok (NoBefore FromRests))) (0, zeros, no, from_rests ∷ []) ∷
    claim "B rests" (worded (Ok (NoBefore ToRests))) (0, zeros, no, to_rests ∷ []) ∷
    claim "the stations differ" (worded (Ok (NoBefore StationsDiffer))) (0, zeros, no, stations_differ ∷ []) ∷
    claim "nobody alights" (worded (Ok (NoBefore NobodyAlights))) (0, zeros, no, nobody_alights ∷ []) ∷
    claim "nobody boards" (worded (Ok (NoBefore NobodyBoards))) (0, zeros, no, nobody_boards ∷ []) ∷
    claim "00" (worded (Ok (NoBarred (pos 90) Pair00))) (0, zeros, no, pair_00 ∷ []) ∷
    claim "flag 0" (worded (Ok (NoBarred (pos 90) Flag0))) (0, zeros, no, flag_0 ∷ []) ∷
    claim "too short" (worded (Ok (NoShort (pos 90) FromXchanges 99))) (0, zeros, no, gap_below_needed ∷ []) ∷
    -- other answers have none
    claim "Yes" (worded (Ok (Yes (pos 90) FromStations 5))) (0, zeros, yes, []) ∷
    claim "Unsettled" (worded (Ok (Unsettled (pos 1480) FromStations 99))) (0, zeros, unsettled, []) ∷
    -- a refusal has a number and no more
    claim "12" (worded (Err NoService)) (12, zeros, none, []) ∷
    claim "13" (worded (Err NoStop)) (13, zeros, none, []) ∷
    claim "14" (worded (Err NoDate)) (14, zeros, none, []) ∷
    claim "15" (worded (Err NoPeriod)) (15, zeros, none, []) ∷
    claim "16" (worded (Err NotSound)) (16, zeros, none, []) ∷
    []

pub words_hold : Hold words
unfolding opened
words_hold = (refl, (refl, (refl, (refl, (refl, (refl, (refl, (refl, (refl, (refl, (refl, (refl, (refl, (refl, (refl, (refl, tt))))))))))))))))

-- "Gap, source and needed time are shown as far as reached"
abbrev pub values : List Claim
values =
    claim "nobody boards" (reached (Ok (NoBefore NobodyBoards))) ([], [], []) ∷
    -- "00 and flag 0 have a source and no needed time"
    claim "00" (reached (Ok (NoBarred (pos 90) Pair00))) (pos 90 ∷ [], FromChanges ∷ [], []) ∷
    claim "flag 0" (reached (Ok (NoBarred (negsuc 89) Flag0))) (negsuc 89 ∷ [], FromStations ∷ [], []) ∷
    claim "too short by CHANGES" (reached (Ok (NoShort (negsuc 0) FromChanges 0))) (negsuc 0 ∷ [], FromChanges ∷ [], 0 ∷ []) ∷
    claim "too short by XCHANGES" (reached (Ok (NoShort (pos 90) FromXchanges 99))) (pos 90 ∷ [], FromXchanges ∷ [], 99 ∷ []) ∷
    claim "too short by STATIONS" (reached (Ok (NoShort (pos 4) FromStations 5))) (pos 4 ∷ [], FromStations ∷ [], 5 ∷ []) ∷
    claim "Yes" (reached (Ok (Yes (pos 90) FromStations 5))) (pos 90 ∷ [], FromStations ∷ [], 5 ∷ []) ∷
    claim "Unsettled" (reached (Ok (Unsettled (pos 1480) FromXchanges 999))) (pos 1480 ∷ [], FromXchanges ∷ [], 999 ∷ []) ∷
    claim "refused" (reached (Err NoStop)) ([], [], []) ∷
    []

pub values_hold : Hold values
unfolding opened
values_hold = (refl, (refl, (refl, (refl, (refl, (refl, (refl, (refl, (refl, tt)))))))))
