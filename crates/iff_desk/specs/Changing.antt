-- "Change: from service A at stop i (2 to n) on its date to B at stop j (1 to n-1) on its date."
use Rattle.std.specs.Prelude.{ℕ, ◌-◌, List, [], ◌∷◌, Bool, true, false, ◌&&◌, ◌||◌, not, cond, drop, eqb, ltb, leb, ℤ, pos, Err, None, Ok, Option, Some, Result}
use Rattle.std.specs.Int.Signed.{lt_z}
use Rattle.iff.specs.Bytes.{percent, ampersand}
use Rattle.iff.specs.Lists.{kept}
use Rattle.iff.specs.Refusals.{or_test, first_test, unless, Test}
use Rattle.iff.specs.Files.{PerFile}
use Rattle.iff.specs.Times.{gap_of}
use Rattle.iff.specs.Tables.{Row}
use Rattle.iff.specs.Words.{named, from_service, to_service, possibility, from_company, from_mode, to_company, to_mode, exception_time, exception_footnote, change_flag, change_time}
use Rattle.iff.specs.declared.Reason.TheVariants.{NoPeriod, NotSound}
use Rattle.iff_rules.specs.References.{any_company, any_mode}
use Rattle.iff_rules.specs.Legs.{stops_of}
use Rattle.iff_desk.specs.Sound.{sound, rows_of_tables}
use Rattle.iff_desk.specs.Store.{service_rows, group_of, stop_at, record_on, station_row, day_on, marked, vector_of}
use Rattle.iff_desk.specs.Running.{asked, runs_on, is_leg}
use Rattle.iff_desk.specs.Stops.{may_alight, may_board, arrival_on, departure_on}
use Rattle.iff_desk.specs.Card.{Pattern, pattern, place_of, is_named, best_of}
use Rattle.iff_desk.specs.declared.Early.{Early}
use Rattle.iff_desk.specs.declared.Early.TheVariants.{SameService, FromRests, ToRests, StationsDiffer, NobodyAlights, NobodyBoards}
use Rattle.iff_desk.specs.declared.Source.{Source}
use Rattle.iff_desk.specs.declared.Source.TheVariants.{FromChanges, FromStations, FromXchanges}
use Rattle.iff_desk.specs.declared.Bar.TheVariants.{Pair00, Flag0}
use Rattle.iff_desk.specs.declared.Change.{Change}
use Rattle.iff_desk.specs.declared.Change.TheVariants.{NoBefore, NoBarred, NoShort, Yes, Unsettled}
use Rattle.iff_desk.specs.declared.Call.{Call}
use Rattle.iff_desk.specs.declared.Riding.{Riding}
use Rattle.iff_desk.specs.declared.Best.{Best}
use Rattle.iff_desk.specs.declared.Moment.{Moment}
use Rattle.iff.specs.declared.Reason.{Reason}

-- one side of a change as it is asked: a service, a stop, a date
pub record Side : Type 0 where
  pub service : ℕ
  pub stop : ℕ
  pub date : ℕ

-- and with the day counted from the first day
abbrev pub call_of : PerFile (List Row) → Side → Call
call_of R A = record { service = A.service; stop = A.stop; day = day_on R A.date }

-- THE NEEDED TIME
-- "CHANGES pair there"
abbrev pub pair_in : List Row → Option ℕ
pair_in [] = None
pair_in (r ∷ rs) = Some (possibility r)

unfoldable pub pair_at : PerFile (List Row) → ℕ → ℕ → ℕ → Option ℕ
pair_at R station a b = pair_in (kept (λ r. eqb (from_service r) a && eqb (to_service r) b) (drop 1 (group_of station R.changes)))

-- company and mode of a service on a leg
unfoldable pub riding_on : List Row → ℕ → Riding
riding_on rs k = record { company = named (record_on percent k rs); mode = named (record_on ampersand k rs) }

-- the keys of an XCHANGES row, for either side
abbrev pub from_keys : Row → Riding
from_keys r = record { company = from_company r; mode = from_mode r }

abbrev pub to_keys : Row → Riding
to_keys r = record { company = to_company r; mode = to_mode r }

-- a key fits: it is the wildcard, or the very company or mode
abbrev pub fits_key : ℕ → ℕ → ℕ → Bool
fits_key any key k = eqb key any || eqb key k

abbrev pub fits : Riding → Riding → Bool
fits keys r = fits_key any_company keys.company r.company && fits_key any_mode keys.mode r.mode

-- "An XCHANGES row applies if its four keys fit A on leg i-1 and B on leg j and its vector has 1 on A's date."
unfoldable pub applies : PerFile (List Row) → Riding → Riding → ℕ → Row → Bool
applies R a b d r = fits (from_keys r) a && (fits (to_keys r) b && marked (vector_of R.xfootnote (exception_footnote r)) d)

-- the pattern of four keys: which of them are named
abbrev pub pattern_of : Riding → Riding → Pattern
pattern_of from to =
    pattern (is_named any_company from.company) (is_named any_mode from.mode) (is_named any_company to.company) (is_named any_mode to.mode)

-- "Let the rank come from a table of sixteen entries in the order of the desk's own card": the pattern's place on it
unfoldable pub rank : Riding → Riding → ℕ
rank from to = place_of (pattern_of from to)

-- "Highest rank wins, then the larger time."
unfoldable pub better : Option Best → ℕ → ℕ → Option Best
better None k t = best_of k t
better (Some best) k t = cond (ltb best.rank k) (best_of k t) (cond (ltb k best.rank) (best_of best.rank best.time) (cond (ltb best.time t) (best_of k t) (best_of best.rank best.time)))

unfoldable pub best : Option Best → List Row → Option Best
best b [] = b
best b (r ∷ rs) = best (better b (rank (from_keys r) (to_keys r)) (exception_time r)) rs

unfoldable pub best_at : PerFile (List Row) → ℕ → Riding → Riding → ℕ → Option Best
best_at R station a b d = best None (kept (applies R a b d) (drop 1 (group_of station R.xchanges)))

-- the best row of XCHANGES for a change, at the station of A's stop
abbrev pub best_between : PerFile (List Row) → Call → Call → Option Best
best_between R A B =
    let a_rows = service_rows R A.service in
    best_at R (named (stop_at a_rows A.stop)) (riding_on a_rows (A.stop - 1)) (riding_on (service_rows R B.service) B.stop) A.day

-- THE VERDICT on a gap
-- "Gap below needed: No. Otherwise Unsettled if .., else Yes."
unfoldable pub settled : ℤ → Source → ℕ → Bool → Change
settled gap source needed at_top =
    cond (lt_z gap (pos needed)) (NoShort gap source needed) (cond at_top (Unsettled gap source needed) (Yes gap source needed))

-- "best XCHANGES row; the station's change time": "Unsettled if needed is 99 from STATIONS or 999 from XCHANGES"
unfoldable pub by_time : ℤ → Option Best → ℕ → Change
by_time gap (Some best) station_time = settled gap FromXchanges best.time (eqb best.time 999)
by_time gap None station_time = settled gap FromStations station_time (eqb station_time 99)

-- "first that applies: CHANGES pair there (00: No; 01 and 02: needed 0); flag 0: No; best XCHANGES row; the station's change time"
unfoldable pub core : ℤ → Option ℕ → ℕ → Option Best → ℕ → Change
core gap (Some p) flag best time = cond (eqb p 0) (NoBarred gap Pair00) (settled gap FromChanges 0 false)
core gap None flag best time = cond (eqb flag 0) (NoBarred gap Flag0) (by_time gap best time)

-- "Then No, by the first that holds: same service and date; A doesn't run on leg i-1; B doesn't run on leg j; stations differ; nobody alights; nobody boards. Then 15."
pub data Hurdle : Type 0 where
  stop : Early → Hurdle
  clear : Hurdle

abbrev pub or_hurdle : Hurdle → Hurdle → Hurdle
or_hurdle (stop e) s = stop e
or_hurdle clear s = s

abbrev pub stop_if : Bool → Early → Hurdle
stop_if true e = stop e
stop_if false e = clear

unfoldable pub first_hurdle : List Hurdle → Hurdle
first_hurdle [] = clear
first_hurdle (s ∷ ss) = or_hurdle s (first_hurdle ss)

-- the gap, where both times are there
abbrev pub gap_between : Option Moment → ℕ → Option Moment → ℕ → ℤ
gap_between (Some moment) da (Some moment2) db = gap_of moment.reference da moment2.reference db
gap_between (Some moment) da None db = pos 0
gap_between None da t db = pos 0

-- "Then 15.", of A's arrival and of B's departure
abbrev pub is_told : Option (Option Moment) → Bool
is_told (Some t) = true
is_told None = false

abbrev pub time_told : Option (Option Moment) → Option Moment
time_told (Some t) = t
time_told None = None

abbrev pub told_test : Option (Option Moment) → Option (Option Moment) → Test
told_test a d = first_test (unless (is_told a) NoPeriod ∷ unless (is_told d) NoPeriod ∷ [])

abbrev pub after_hurdles : Hurdle → Test → Change → Result Change Reason
after_hurdles (stop e) t c = Ok (NoBefore e)
after_hurdles clear (Err r) c = Err r
after_hurdles clear (Ok _) c = Ok c

-- the core: services that are there, stops and days that are right, on sound tables; by A's arrival, B's departure and the best row of XCHANGES
unfoldable pub core_by : PerFile (List Row) → Call → Call → Option (Option Moment) → Option (Option Moment) → Option Best → Result Change Reason
core_by R A B arrival departure best =
    let a_rows = service_rows R A.service in
    let b_rows = service_rows R B.service in
    let k = A.stop - 1 in
    let m = B.stop in
    let a = stop_at a_rows A.stop in
    let b = stop_at b_rows B.stop in
    let station = named a in
    after_hurdles
    (first_hurdle
    (stop_if (eqb A.service B.service && eqb A.day B.day) SameService
    ∷ stop_if (not (runs_on R a_rows k A.day)) FromRests
    ∷ stop_if (not (runs_on R b_rows m B.day)) ToRests
    ∷ stop_if (not (eqb (named a) (named b))) StationsDiffer
    ∷ stop_if (not (may_alight R a_rows A.stop A.day)) NobodyAlights
    ∷ stop_if (not (may_board R b_rows B.stop B.day)) NobodyBoards
    ∷ []))
    (told_test arrival departure)
    (core
    (gap_between (time_told arrival) A.day (time_told departure) B.day)
    (pair_at R station A.service B.service)
    (change_flag (station_row R station))
    best
    (change_time (station_row R station)))

unfoldable pub core_change : PerFile (List Row) → Call → Call → Result Change Reason
core_change R A B =
    core_by R A B (arrival_on R (stop_at (service_rows R A.service) A.stop) A.day)
    (departure_on R (stop_at (service_rows R B.service) B.stop) B.day) (best_between R A B)

-- "12, 13, 14, for A then B each"
unfoldable pub precheck : PerFile (List Row) → Side → Side → Test
precheck R A B =
    or_test
    (asked R A.service (leb 2 A.stop && leb A.stop (stops_of (service_rows R A.service))) A.date)
    (asked R B.service (is_leg (service_rows R B.service) B.stop) B.date)

abbrev pub change_after : Test → Result Change Reason → Result Change Reason
change_after (Ok _) c = c
change_after (Err r) c = Err r

abbrev pub change_in : Bool → PerFile (List Row) → Side → Side → Result Change Reason
change_in false R A B = Err NotSound
change_in true R A B = change_after (precheck R A B) (core_change R (call_of R A) (call_of R B))

unfoldable pub change : PerFile (List ℕ) → Side → Side → Result Change Reason
change T A B = change_in (sound T) (rows_of_tables T) A B
