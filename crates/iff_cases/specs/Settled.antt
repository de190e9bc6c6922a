-- "Settled cases": P1 to P12, one statement over one list, through the definitions that contracts cite.
use Prim.{tt}
use Rattle.std.specs.Prelude.{ℕ, ◌+◌, refl, List, [], ◌∷◌, ◌++◌, true, false, pos, negsuc, None, Some}
use Rattle.iff.specs.Bytes.{dash}
use Rattle.iff.specs.Days.{day_of, is_day, period, span}
use Rattle.iff.specs.Times.{is_time, minutes_of, reference_of, gap_of}
use Rattle.iff.specs.Tables.{Row}
use Rattle.iff_rules.specs.Meaning.{first_meaning}
use Rattle.iff_rules.specs.Legs.{covering, covered, of_kind, reach_of, legs}
use Rattle.iff_desk.specs.Changing.{from_keys, to_keys, rank, better, best, core}
use Rattle.iff_desk.specs.declared.Source.TheVariants.{FromChanges, FromStations, FromXchanges}
use Rattle.iff_desk.specs.declared.Change.TheVariants.{NoShort, Yes, Unsettled}
use Rattle.small_delivery.specs.Claims.{Claim, claim, Hold, both_hold}
use Rattle.small_delivery.specs.Opened.{opened}
use Rattle.small_delivery.specs.Shown.{accepted, refused, DELIVERY, TIMETBLS, load_of}
use Rattle.small_delivery.specs.Stored.{AAA, BBB, CCC}
use Rattle.small_delivery.specs.Check.{eight_hundred, eight_hundred_and_one, last_stop, checked}
use Rattle.iff_desk.specs.Card.{best_of}

-- P3: the row of a first line of those days
abbrev first_row : ℕ → Row
first_row last = 64 ∷ 100 ∷ 1012015 ∷ last ∷ 1 ∷ 1 ∷ []

-- P9: the rows of a block of five stops whose `-` records are given
abbrev five_stops : List Row → List Row
five_stops validity =
    (35 ∷ 1 ∷ 10 ∷ 5 ∷ 0 ∷ 0 ∷ 1 ∷ [])
    ∷ (37 ∷ 100 ∷ 1 ∷ 1 ∷ 5 ∷ 0 ∷ 2 ∷ [])
    ∷ (validity
    ++ ((38 ∷ 0x49432020 ∷ 1 ∷ 5 ∷ 0 ∷ 0 ∷ 5 ∷ [])
    ∷ (62 ∷ AAA ∷ 900 ∷ 0 ∷ 0 ∷ 0 ∷ 6 ∷ [])
    ∷ (46 ∷ BBB ∷ 1000 ∷ 0 ∷ 0 ∷ 0 ∷ 7 ∷ [])
    ∷ (46 ∷ CCC ∷ 1100 ∷ 0 ∷ 0 ∷ 0 ∷ 8 ∷ [])
    ∷ (46 ∷ 0x44444420202020 ∷ 1200 ∷ 0 ∷ 0 ∷ 0 ∷ 9 ∷ [])
    ∷ (60 ∷ 0x45454520202020 ∷ 1300 ∷ 0 ∷ 0 ∷ 0 ∷ 10 ∷ [])
    ∷ []))

-- a `-` record from one stop to another
abbrev validity : ℕ → ℕ → Row
validity first last = 45 ∷ 1 ∷ first ∷ last ∷ 0 ∷ 0 ∷ 3 ∷ []

abbrev from1_to4_and4_to5 : List Row
from1_to4_and4_to5 = five_stops (validity 1 4 ∷ validity 4 5 ∷ [])

abbrev from1_to3_and4_to5 : List Row
from1_to3_and4_to5 = five_stops (validity 1 3 ∷ validity 4 5 ∷ [])

abbrev from1_to4_and3_to5 : List Row
from1_to4_and3_to5 = five_stops (validity 1 4 ∷ validity 3 5 ∷ [])

-- P12: the two rows of XCHANGES, the second with the larger time
abbrev explicit_company : Row
explicit_company = 45 ∷ 100 ∷ 0x2A202020 ∷ 0x2A2020 ∷ 0x2A202020 ∷ 10 ∷ 1 ∷ []

abbrev explicit_others : Row
explicit_others = 45 ∷ 0x2A2020 ∷ 0x49432020 ∷ 200 ∷ 0x49432020 ∷ 20 ∷ 1 ∷ []

-- P1 to P4
abbrev pub spans : List Claim
spans =
    -- 13122015 to 10122016 is 364 days
    claim "P1" (span 13122015 10122016) 364 ∷
    -- 28091997 to 23051998 is 238
    claim "P2" (span 28091997 23051998) 238 ∷
    -- 01012015 to 10032017 is 800, accepted; to 11032017 is refused 5
    claim "P3: 800 days" (span 1012015 10032017) 800 ∷
    claim "P3: 801 days" (span 1012015 11032017) 801 ∷
    claim "P3: first not after last" (period 1012015 11032017) true ∷
    claim "P3: 800 days are a delivery's" (first_meaning (first_row 10032017)) true ∷
    claim "P3: 801 days are not" (first_meaning (first_row 11032017)) false ∷
    -- the check program's delivery: `accepted 800 1`
    claim "P3: a load of 800 days" (load_of (checked eight_hundred 800 last_stop)) (accepted 800 1) ∷
    claim "P3: a load of 801 days" (load_of (checked eight_hundred_and_one 801 last_stop)) (refused 5 DELIVERY 0 1) ∷
    -- "If its `<` names a station not in STATIONS, the second line is `refused 9 TIMETBLS 1 6`"
    claim "the check program's refusal" (load_of (checked eight_hundred 800 "<CCC    ,1000")) (refused 9 TIMETBLS 1 6) ∷
    -- 29022000 is a day; 29021900 is not (01011600 is day 0: 400 years are 146097 days, and 29022000 comes 59 days after 01012000)
    claim "P4: 29022000" (day_of 29022000) (Some 146156) ∷
    claim "P4: 29022000 is a day" (is_day (day_of 29022000)) true ∷
    claim "P4: 29021900" (day_of 29021900) None ∷
    []

pub spans_hold : Hold spans
unfolding opened
spans_hold = (refl, (refl, (refl, (refl, (refl, (refl, (refl, (refl, (refl, (refl, (refl, (refl, (refl, tt)))))))))))))

-- P5 to P8
abbrev pub clocks : List Claim
clocks =
    -- 0000 is 0, 2500 is 1500, 9959 is 5999; 9960 is refused; 9999 is none
    claim "P5: 0000" (minutes_of 0) (Some 0) ∷
    claim "P5: 2500" (minutes_of 2500) (Some 1500) ∷
    claim "P5: 9959" (minutes_of 9959) (Some 5999) ∷
    claim "P5: 9960 is no time" (is_time 9960) false ∷
    claim "P5: 9960 is refused" (load_of (checked eight_hundred 800 "<BBB    ,9960")) (refused 5 TIMETBLS 1 6) ∷
    claim "P5: 9999" (minutes_of 9999) None ∷
    -- zone -01, 2500: reference 1560
    claim "P6" (reference_of (record { 0 = pos 1500 }) true 1) (record { 0 = pos 1560 }) ∷
    -- zone +01, 0030: reference -30
    claim "P7" (reference_of (record { 0 = pos 30 }) false 1) (record { 0 = negsuc 29 }) ∷
    -- arrival 2350, departure 0005 a day later, same zone and hours: gap 15
    claim "P8: zone +01" (gap_of (reference_of (record { 0 = pos 1430 }) false 1) 0 (reference_of (record { 0 = pos 5 }) false 1) 1) (pos 15) ∷
    claim "P8: zone -01" (gap_of (reference_of (record { 0 = pos 1430 }) true 1) 0 (reference_of (record { 0 = pos 5 }) true 1) 1) (pos 15) ∷
    []

pub clocks_hold : Hold clocks
unfolding opened
clocks_hold = (refl, (refl, (refl, (refl, (refl, (refl, (refl, (refl, (refl, (refl, tt))))))))))

-- P9
abbrev pub covers : List Claim
covers =
    -- five stops: 001-004 with 004-005 covers
    claim "P9: 001-004 with 004-005" (legs reach_of from1_to4_and4_to5) true ∷
    claim "P9: its `-` records cover the four legs" (covered 4 (of_kind dash from1_to4_and4_to5)) true ∷
    -- 001-003 with 004-005 lacks leg 3
    claim "P9: 001-003 with 004-005" (legs reach_of from1_to3_and4_to5) false ∷
    claim "P9: leg 3 lies in none" (covering 3 (of_kind dash from1_to3_and4_to5)) 0 ∷
    claim "P9: leg 2 lies in one, leg 4 too" (covering 2 (of_kind dash from1_to3_and4_to5) + covering 4 (of_kind dash from1_to3_and4_to5)) 2 ∷
    -- 001-004 with 003-005 has it twice
    claim "P9: 001-004 with 003-005" (legs reach_of from1_to4_and3_to5) false ∷
    claim "P9: leg 3 lies in two" (covering 3 (of_kind dash from1_to4_and3_to5)) 2 ∷
    []

pub covers_hold : Hold covers
unfolding opened
covers_hold = (refl, (refl, (refl, (refl, (refl, (refl, (refl, tt)))))))

-- P10 to P12
abbrev pub changes : List Claim
changes =
    -- station time 99: gap 98 No, 99 Unsettled. XCHANGES 099: gap 99 Yes
    claim "P10: gap 98" (core (pos 98) None 1 None 99) (NoShort (pos 98) FromStations 99) ∷
    claim "P10: gap 99" (core (pos 99) None 1 None 99) (Unsettled (pos 99) FromStations 99) ∷
    claim "P10: XCHANGES 099" (core (pos 99) None 1 (best_of 8 99) 5) (Yes (pos 99) FromXchanges 99) ∷
    -- CHANGES 01: gap 0 Yes, gap -1 No
    claim "P11: gap 0" (core (pos 0) (Some 1) 1 None 5) (Yes (pos 0) FromChanges 0) ∷
    claim "P11: gap -1" (core (negsuc 0) (Some 1) 1 None 5) (NoShort (negsuc 0) FromChanges 0) ∷
    -- row 100,`*`,`*`,`*` (8) beats `*`,IC,200,IC (7)
    claim "P12: rank 8" (rank (from_keys explicit_company) (to_keys explicit_company)) 8 ∷
    claim "P12: rank 7" (rank (from_keys explicit_others) (to_keys explicit_others)) 7 ∷
    claim "P12: 8 beats 7" (better (best_of 7 20) 8 10) (best_of 8 10) ∷
    claim "P12: 8 first" (best None (explicit_company ∷ explicit_others ∷ [])) (best_of 8 10) ∷
    claim "P12: 8 last" (best None (explicit_others ∷ explicit_company ∷ [])) (best_of 8 10) ∷
    []

pub changes_hold : Hold changes
unfolding opened
changes_hold = (refl, (refl, (refl, (refl, (refl, (refl, (refl, (refl, (refl, (refl, tt))))))))))

-- P1 to P12
abbrev pub settled : List Claim
settled = spans ++ (clocks ++ (covers ++ changes))

pub settled_hold : Hold settled
settled_hold =
    both_hold spans (clocks ++ (covers ++ changes)) spans_hold
    (both_hold clocks (covers ++ changes) clocks_hold (both_hold covers changes covers_hold changes_hold))
