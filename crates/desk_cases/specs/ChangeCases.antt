-- "Change": from service A at stop i on its date to B at stop j on its date.
use Prim.{tt}
use Rattle.std.specs.Prelude.{ℕ, refl, List, [], ◌∷◌, ◌++◌, take, pos, negsuc, Ok, Err}
use Rattle.iff.specs.Files.{PerFile, per_file}
use Rattle.small_delivery.specs.Claims.{Claim, claim, Hold}
use Rattle.small_delivery.specs.Opened.{opened}
use Rattle.small_delivery.specs.Delivery.{at}
use Rattle.small_delivery.specs.Stored.{stored, reword, keeping, tampered, AAA, CCC}
use Rattle.iff_rules.specs.References.{any_company, any_mode}
use Rattle.iff.specs.declared.GroupFile.TheVariants.{Changes, Xfootnote, Xchanges}
use Rattle.iff.specs.declared.File.TheVariants.{Groups, Timetbls}
use Rattle.iff_desk.specs.Changing.{Side, change}
use Rattle.iff.specs.declared.Reason.TheVariants.{NoService, NoStop, NoDate, NotSound}
use Rattle.iff_desk.specs.declared.Early.TheVariants.{SameService, FromRests, ToRests, StationsDiffer, NobodyAlights, NobodyBoards}
use Rattle.iff_desk.specs.declared.Source.TheVariants.{FromChanges, FromStations, FromXchanges}
use Rattle.iff_desk.specs.declared.Bar.TheVariants.{Pair00, Flag0}
use Rattle.iff_desk.specs.declared.Change.TheVariants.{NoBefore, NoBarred, NoShort, Yes, Unsettled}

-- a service, a stop and a date
abbrev pub side : ℕ → ℕ → ℕ → Side
side service stop date = record { service = service; stop = stop; date = date }

-- "Then No, by the first that holds" (15: Borders)
abbrev pub no_before : List Claim
no_before =
    -- "same service and date"
    claim "the same service and date" (change stored (side 7 3 3011615) (side 7 1 3011615)) (Ok (NoBefore SameService)) ∷
    -- first, also where it rests
    claim "the same service and date, at rest" (change stored (side 8 2 2011615) (side 8 1 2011615)) (Ok (NoBefore SameService)) ∷
    -- "A doesn't run on leg i-1"
    claim "A rests on leg 1" (change stored (side 8 2 2011615) (side 9 1 3011615)) (Ok (NoBefore FromRests)) ∷
    -- before B
    claim "A rests, and B" (change stored (side 8 2 2011615) (side 8 1 4011615)) (Ok (NoBefore FromRests)) ∷
    -- "B doesn't run on leg j"
    claim "B rests on leg 1" (change stored (side 7 2 1011615) (side 8 1 2011615)) (Ok (NoBefore ToRests)) ∷
    -- before the stations
    claim "B rests, and the stations differ" (change stored (side 7 3 1011615) (side 8 1 2011615)) (Ok (NoBefore ToRests)) ∷
    -- "stations differ"
    claim "the stations differ" (change stored (side 7 2 1011615) (side 9 1 2011615)) (Ok (NoBefore StationsDiffer)) ∷
    -- before nobody alights
    claim "the stations differ, and nobody alights" (change stored (side 9 2 1011615) (side 9 1 2011615)) (Ok (NoBefore StationsDiffer)) ∷
    -- "nobody alights"
    claim "nobody alights" (change stored (side 9 2 1011615) (side 8 1 3011615)) (Ok (NoBefore NobodyAlights)) ∷
    -- "nobody boards"
    claim "nobody boards" (change stored (side 7 3 1011615) (side 9 3 2011615)) (Ok (NoBefore NobodyBoards)) ∷
    -- the same service on another date is not the same
    claim "the same service a day later" (change stored (side 7 3 6011615) (side 7 1 7011615)) (Ok (Yes (pos 90) FromStations 5)) ∷
    []

pub no_before_hold : Hold no_before
unfolding opened
no_before_hold = (refl, (refl, (refl, (refl, (refl, (refl, (refl, (refl, (refl, (refl, (refl, tt)))))))))))

-- CHANGES and flag 0
abbrev pub by_pairs : List Claim
by_pairs =
    -- "CHANGES pair there (.. 01 and 02: needed 0)"; 2430 to 0030 a day later
    claim "01, gap 0" (change stored (side 7 2 2011615) (side 8 1 3011615)) (Ok (Yes (pos 0) FromChanges 0)) ∷
    -- "Gap below needed: No."
    claim "01, a day too early" (change stored (side 7 2 3011615) (side 8 1 3011615)) (Ok (NoShort (negsuc 1439) FromChanges 0)) ∷
    -- "00: No"; "00 and flag 0 have a source and no needed time"
    claim "00" (change stored (side 7 2 1011615) (side 9 2 2011615)) (Ok (NoBarred (pos 120) Pair00)) ∷
    claim "02" (change stored (side 9 4 1011615) (side 8 2 2011615)) (Ok (Yes (pos 1320) FromChanges 0)) ∷
    claim "02, a day too early" (change stored (side 9 4 10011615) (side 8 2 9011615)) (Ok (NoShort (negsuc 1559) FromChanges 0)) ∷
    -- a pair comes before flag 0
    claim "01 at a station with flag 0" (change stored (side 8 2 1011615) (side 9 1 2011615)) (Ok (Yes (pos 1380) FromChanges 0)) ∷
    -- "flag 0: No"
    claim "flag 0, no pair" (change stored (side 9 4 1011615) (side 9 1 2011615)) (Ok (NoBarred (pos 1260) Flag0)) ∷
    claim "flag 0, another service" (change stored (side 8 2 1011615) (side 8 2 2011615)) (Ok (NoBarred (pos 1440) Flag0)) ∷
    -- whatever the gap
    claim "flag 0, a day too early" (change stored (side 9 4 10011615) (side 9 1 9011615)) (Ok (NoBarred (negsuc 1619) Flag0)) ∷
    []

pub by_pairs_hold : Hold by_pairs
unfolding opened
by_pairs_hold = (refl, (refl, (refl, (refl, (refl, (refl, (refl, (refl, (refl, tt)))))))))

-- XCHANGES and the station's change time
abbrev pub by_times : List Claim
by_times =
    -- "best XCHANGES row": rank 8 (020) beats rank 7 (030)
    claim "the higher rank" (change stored (side 7 3 1011615) (side 7 1 2011615)) (Ok (Yes (pos 90) FromXchanges 20)) ∷
    -- "Highest rank wins, then the larger time.": 099 beats 020, both of rank 8
    claim "the larger time" (change stored (side 7 3 4011615) (side 7 1 5011615)) (Ok (NoShort (pos 90) FromXchanges 99)) ∷
    -- 099 from XCHANGES is an ordinary time
    claim "XCHANGES 099, Yes" (change stored (side 7 3 4011615) (side 7 1 6011615)) (Ok (Yes (pos 1470) FromXchanges 99)) ∷
    -- "its vector has 1 on A's date"; from +01 to +02: 0300 to 0330 a day later
    claim "on A's date and not on B's" (change stored (side 9 3 5011615) (side 7 1 6011615)) (Ok (Yes (pos 1410) FromXchanges 30)) ∷
    -- "the station's change time", where no row applies
    claim "no row on A's date" (change stored (side 7 3 6011615) (side 7 1 7011615)) (Ok (Yes (pos 90) FromStations 5)) ∷
    claim "the station's time, B before A" (change stored (side 7 3 6011615) (side 7 1 5011615)) (Ok (NoShort (negsuc 2729) FromStations 5)) ∷
    -- "its four keys fit A on leg i-1 and B on leg j": company 200 and BOAT on leg 2; gap and needed time are the same
    claim "a row of rank 7 alone" (change stored (side 9 3 1011615) (side 7 1 1011615)) (Ok (Yes (pos 30) FromXchanges 30)) ∷
    -- company 200 and IC: rank 12
    claim "999, too short" (change stored (side 8 3 1011615) (side 7 1 1011615)) (Ok (NoShort (pos 29) FromXchanges 999)) ∷
    -- "Unsettled if needed is .. 999 from XCHANGES"; A rests on leg 1, but not on leg 2
    claim "999, a day later" (change stored (side 8 3 2011615) (side 7 1 3011615)) (Ok (Unsettled (pos 1469) FromXchanges 999)) ∷
    claim "no row, the station's time" (change stored (side 8 3 6011615) (side 7 1 6011615)) (Ok (Yes (pos 29) FromStations 5)) ∷
    -- "Unsettled if needed is 99 from STATIONS"
    claim "99, a day later" (change stored (side 7 2 1011615) (side 7 2 2011615)) (Ok (Unsettled (pos 1480) FromStations 99)) ∷
    claim "99, a day earlier" (change stored (side 7 2 2011615) (side 7 2 1011615)) (Ok (NoShort (negsuc 1399) FromStations 99)) ∷
    []

pub by_times_hold : Hold by_times
unfolding opened
by_times_hold = (refl, (refl, (refl, (refl, (refl, (refl, (refl, (refl, (refl, (refl, (refl, (refl, tt))))))))))))

-- 12, 13, 14 and 16
abbrev pub refusals : List Claim
refusals =
    -- "12, 13, 14, for A then B each"
    claim "A's service" (change stored (side 6 2 1011615) (side 8 1 1011615)) (Err NoService) ∷
    -- "stop i (2 to n)"
    claim "A's stop 1" (change stored (side 7 1 1011615) (side 8 1 1011615)) (Err NoStop) ∷
    claim "A's stop 4 of three" (change stored (side 7 4 1011615) (side 8 1 1011615)) (Err NoStop) ∷
    claim "A's date" (change stored (side 7 2 11011615) (side 8 1 1011615)) (Err NoDate) ∷
    claim "B's service" (change stored (side 7 2 1011615) (side 6 1 1011615)) (Err NoService) ∷
    -- "stop j (1 to n-1)"
    claim "B's stop 0" (change stored (side 7 2 1011615) (side 8 0 1011615)) (Err NoStop) ∷
    claim "B's last stop" (change stored (side 7 2 1011615) (side 8 3 1011615)) (Err NoStop) ∷
    claim "B's date" (change stored (side 7 2 1011615) (side 8 1 11615)) (Err NoDate) ∷
    -- A's 14 before B's 12
    claim "A's date, B's service" (change stored (side 7 2 11011615) (side 6 1 1011615)) (Err NoDate) ∷
    claim "A's 12 before B's 13" (change stored (side 6 2 1011615) (side 8 0 1011615)) (Err NoService) ∷
    -- before the six
    claim "the same service and date, at its last stop" (change stored (side 7 3 1011615) (side 7 3 1011615)) (Err NoStop) ∷
    -- "test 16 first"
    claim "empty tables" (change (per_file (λ f. [])) (side 6 0 0) (side 6 0 0)) (Err NotSound) ∷
    claim "one word that should be zero" (change tampered (side 7 3 1011615) (side 7 1 1011615)) (Err NotSound) ∷
    []

pub refusals_hold : Hold refusals
unfolding opened
refusals_hold = (refl, (refl, (refl, (refl, (refl, (refl, (refl, (refl, (refl, (refl, (refl, (refl, (refl, tt)))))))))))))

-- files that may be absent
abbrev pub absent_files : List Claim
absent_files =
    -- without CHANGES the pair of 7 and 8 is not there
    claim "no CHANGES" (change (keeping 0 (Groups Changes) stored) (side 7 2 2011615) (side 8 1 3011615)) (Ok (NoShort (pos 0) FromStations 99)) ∷
    -- without XCHANGES no row applies
    claim "no XCHANGES and no XFOOTNOTE"
    (change (keeping 0 (Groups Xchanges) (keeping 0 (Groups Xfootnote) stored)) (side 7 3 1011615) (side 7 1 2011615))
    (Ok (Yes (pos 90) FromStations 5)) ∷
    []

pub absent_files_hold : Hold absent_files
unfolding opened
absent_files_hold = (refl, (refl, tt))

-- XCHANGES with some rows for one station, and no pairs
abbrev except : ℕ → List ℕ → PerFile (List ℕ)
except station rows =
    keeping 0 (Groups Changes) (at (Groups Xchanges) (λ t. take 7 t ++ (35 ∷ station ∷ 0 ∷ 0 ∷ 0 ∷ 0 ∷ 0 ∷ rows)) stored)

abbrev IC : ℕ
IC = 0x49432020

abbrev BOAT : ℕ
BOAT = 0x424F4154

-- rows that differ in one key and in their times: to company, to mode, from company, from mode
abbrev by_to_company : PerFile (List ℕ)
by_to_company =
    except CCC
    (45 ∷ 100 ∷ BOAT ∷ 100 ∷ any_mode ∷ 20 ∷ 1
    ∷ 45 ∷ 100 ∷ BOAT ∷ 200 ∷ any_mode ∷ 40 ∷ 1
    ∷ [])

abbrev by_to_mode : PerFile (List ℕ)
by_to_mode =
    except CCC
    (45 ∷ 100 ∷ BOAT ∷ any_company ∷ BOAT ∷ 21 ∷ 1
    ∷ 45 ∷ 100 ∷ BOAT ∷ any_company ∷ IC ∷ 41 ∷ 1
    ∷ [])

abbrev by_from_company : PerFile (List ℕ)
by_from_company =
    except AAA
    (45 ∷ 100 ∷ any_mode ∷ 100 ∷ BOAT ∷ 25 ∷ 1
    ∷ 45 ∷ 200 ∷ any_mode ∷ 100 ∷ BOAT ∷ 22 ∷ 1
    ∷ [])

abbrev by_from_mode : PerFile (List ℕ)
by_from_mode =
    except AAA
    (45 ∷ 200 ∷ BOAT ∷ 100 ∷ BOAT ∷ 23 ∷ 1
    ∷ 45 ∷ 200 ∷ IC ∷ 100 ∷ BOAT ∷ 26 ∷ 1
    ∷ [])

-- service 9 leaves AAA at 0315, on its leg 3, where its company is 100 and no more 200
abbrev leaving_aAA : PerFile (List ℕ)
leaving_aAA =
    reword Timetbls 27 3 315
    (except AAA
    (45 ∷ 200 ∷ IC ∷ 200 ∷ any_mode ∷ 12 ∷ 1
    ∷ 45 ∷ 200 ∷ IC ∷ 100 ∷ any_mode ∷ 10 ∷ 1
    ∷ []))

-- "its four keys fit A on leg i-1 and B on leg j", each key by itself
abbrev pub by_keys : List Claim
by_keys =
    claim "to company 100" (change by_to_company (side 7 2 1011615) (side 7 2 2011615)) (Ok (Yes (pos 1480) FromXchanges 20)) ∷
    claim "to company 200" (change by_to_company (side 7 2 1011615) (side 9 2 2011615)) (Ok (Yes (pos 120) FromXchanges 40)) ∷
    claim "to mode BOAT" (change by_to_mode (side 7 2 1011615) (side 7 2 2011615)) (Ok (Yes (pos 1480) FromXchanges 21)) ∷
    claim "to mode IC" (change by_to_mode (side 7 2 1011615) (side 8 1 3011615)) (Ok (Yes (pos 1440) FromXchanges 41)) ∷
    -- service 9 has IC on leg 1 and BOAT on leg 2
    claim "to mode of leg j" (change by_to_mode (side 7 2 1011615) (side 9 2 2011615)) (Ok (Yes (pos 120) FromXchanges 21)) ∷
    -- service 9 has company 200 on leg 2 and 100 on leg 3
    claim "from company of leg i-1" (change by_from_company (side 9 3 1011615) (side 7 1 1011615)) (Ok (Yes (pos 30) FromXchanges 22)) ∷
    claim "from company 100" (change by_from_company (side 7 3 1011615) (side 7 1 2011615)) (Ok (Yes (pos 90) FromXchanges 25)) ∷
    claim "to company of leg j" (change leaving_aAA (side 8 3 1011615) (side 9 3 1011615)) (Ok (Yes (pos 14) FromXchanges 10)) ∷
    claim "from mode BOAT" (change by_from_mode (side 9 3 1011615) (side 7 1 1011615)) (Ok (Yes (pos 30) FromXchanges 23)) ∷
    claim "from mode IC" (change by_from_mode (side 8 3 1011615) (side 7 1 1011615)) (Ok (Yes (pos 29) FromXchanges 26)) ∷
    []

pub by_keys_hold : Hold by_keys
unfolding opened
by_keys_hold = (refl, (refl, (refl, (refl, (refl, (refl, (refl, (refl, (refl, (refl, tt))))))))))
