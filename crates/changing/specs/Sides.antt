-- The two sides of a change, as they are found in TIMETBLS, and the first No before a gap.
use Rattle.std.specs.Prelude.{ℕ, ◌-◌, ◌≡◌, List, [], ◌∷◌, Bool, not, ◌&&◌, eqb, leb, None, Option, Some, Ok, Result}
use Rattle.iff.specs.Files.{PerFile}
use Rattle.iff.specs.Tables.{Row, row_width, rows_in}
use Rattle.iff.specs.Words.{named}
use Rattle.iff.specs.declared.File.TheVariants.{Timetbls}
use Rattle.iff_rules.specs.Legs.{stops_of}
use Rattle.iff_desk.specs.Store.{service_rows, group_of, stop_at, number_on}
use Rattle.iff_desk.specs.Running.{runs_on, asked, is_leg}
use Rattle.iff_desk.specs.Stops.{arrival_of, departure_of, may_alight, may_board, told_on}
use Rattle.iff_desk.specs.Changing.{Side, Hurdle, stop, clear, stop_if, first_hurdle, gap_between, told_test, time_told, after_hurdles, change_after}
use Rattle.iff_desk.specs.declared.Call.{Call}
use Rattle.iff_desk.specs.declared.Change.{Change}
use Rattle.iff_desk.specs.declared.Early.TheVariants.{FromRests, ToRests, StationsDiffer, NobodyAlights, NobodyBoards}
use Rattle.store.specs.Found.{rows_of, row_or, Inside, RowFor}
use Rattle.store.specs.declared.Part.{Part}
use Rattle.needed_times.specs.declared.SideRows.{SideRows}
use Rattle.needed_times.specs.Needed.{rows_found, verdict_on}
use Rattle.changing.specs.declared.Visit.{Visit}
use Rattle.iff.specs.Refusals.{Test}
use Rattle.iff_desk.specs.declared.Early.{Early}
use Rattle.iff_desk.specs.declared.Moment.{Moment}
use Rattle.iff.specs.declared.Reason.{Reason}

-- a side as it is asked, in the definition's own words
abbrev pub side_of : Visit → Side
side_of v = record { service = v.service; stop = v.stop; date = v.date }

-- the stop that was found
abbrev pub stop_found : List ℕ → SideRows → Row
stop_found t s = row_or (row_width Timetbls) t s.row

-- a service's rows, as a part of the table
pub record PartFor (t : List ℕ) (service : ℕ) (p : Part) : Type 0 where
  pub rows : group_of service (rows_in Timetbls t) ≡ rows_of (row_width Timetbls) t p
  pub inside : Inside (row_width Timetbls) t p

pub record SideFor (t : List ℕ) (c : Call) (s : SideRows) : Type 0 where
  pub rows : group_of c.service (rows_in Timetbls t) ≡ rows_found t s
  pub inside : Inside (row_width Timetbls) t s.part
  pub row : RowFor (row_width Timetbls) t (stop_at (rows_found t s) c.stop) s.row
  pub station : s.station ≡ named (stop_at (rows_found t s) c.stop)

-- THE FIRST NO before a gap
abbrev pub hurdle_of : Option Early → Hurdle
hurdle_of (Some e) = stop e
hurdle_of None = clear

-- the services run
abbrev pub run_hurdle : PerFile (List Row) → List Row → List Row → Call → Call → Hurdle
run_hurdle R a_rows b_rows A B =
    first_hurdle (stop_if (not (runs_on R a_rows (A.stop - 1) A.day)) FromRests ∷ stop_if (not (runs_on R b_rows B.stop B.day)) ToRests ∷ [])

-- they meet, and somebody alights and boards
abbrev pub stop_hurdle : PerFile (List Row) → List Row → List Row → Call → Call → Hurdle
stop_hurdle R a_rows b_rows A B =
    first_hurdle
    (stop_if (not (eqb (named (stop_at a_rows A.stop)) (named (stop_at b_rows B.stop)))) StationsDiffer
    ∷ stop_if (not (may_alight R a_rows A.stop A.day)) NobodyAlights
    ∷ stop_if (not (may_board R b_rows B.stop B.day)) NobodyBoards
    ∷ [])

-- all but the first, that it is one service on one day
abbrev pub later_hurdle : PerFile (List Row) → List Row → List Row → Call → Call → Hurdle
later_hurdle R a_rows b_rows A B =
    first_hurdle
    (stop_if (not (runs_on R a_rows (A.stop - 1) A.day)) FromRests
    ∷ stop_if (not (runs_on R b_rows B.stop B.day)) ToRests
    ∷ stop_if (not (eqb (named (stop_at a_rows A.stop)) (named (stop_at b_rows B.stop)))) StationsDiffer
    ∷ stop_if (not (may_alight R a_rows A.stop A.day)) NobodyAlights
    ∷ stop_if (not (may_board R b_rows B.stop B.day)) NobodyBoards
    ∷ [])

abbrev pub is_same : Call → Call → Bool
is_same A B = eqb A.service B.service && eqb A.day B.day

-- A's arrival and B's departure, of their stops' rows at their stations
abbrev pub arrival_from : PerFile (List Row) → Row → ℕ → Call → Option (Option Moment)
arrival_from R a station A = told_on R station (number_on R A.day) (arrival_of a)

abbrev pub departure_to : PerFile (List Row) → Row → ℕ → Call → Option (Option Moment)
departure_to R b station B = told_on R station (number_on R B.day) (departure_of b)

-- the gap between two times, and the verdict on it
abbrev pub verdict_by : PerFile (List Row) → List Row → List Row → Option Moment → Option Moment → ℕ → Call → Call → Change
verdict_by R a_rows b_rows arrival departure station A B =
    verdict_on R (gap_between arrival A.day departure B.day) a_rows b_rows station A B

-- 15 before it, for either time
abbrev pub judged_on : PerFile (List Row) → List Row → List Row → Option (Option Moment) → Option (Option Moment) → ℕ → Call → Call → Result Change Reason
judged_on R a_rows b_rows arrival departure station A B =
    change_after (told_test arrival departure) (Ok (verdict_by R a_rows b_rows (time_told arrival) (time_told departure) station A B))

-- the core but for the first hurdle, of two services' rows, their stops and the stations there
unfoldable pub later_of : PerFile (List Row) → List Row → List Row → Row → Row → ℕ → ℕ → Call → Call → Result Change Reason
later_of R a_rows b_rows a b station other A B =
    let arrival = arrival_from R a station A in
    let departure = departure_to R b other B in
    after_hurdles (later_hurdle R a_rows b_rows A B) (told_test arrival departure)
    (verdict_by R a_rows b_rows (time_told arrival) (time_told departure) station A B)

abbrev pub later_change : PerFile (List Row) → Call → Call → Result Change Reason
later_change R A B =
    let a_rows = service_rows R A.service in
    let b_rows = service_rows R B.service in
    let a = stop_at a_rows A.stop in
    let b = stop_at b_rows B.stop in
    later_of R a_rows b_rows a b (named a) (named b) A B

-- THE PRECHECK of either side
abbrev pub asked_from : PerFile (List Row) → Side → Test
asked_from R A = asked R A.service (leb 2 A.stop && leb A.stop (stops_of (service_rows R A.service))) A.date

abbrev pub asked_to : PerFile (List Row) → Side → Test
asked_to R B = asked R B.service (is_leg (service_rows R B.service) B.stop) B.date
