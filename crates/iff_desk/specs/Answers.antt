-- The paper's number and values of each answer.
use Rattle.std.specs.Prelude.{ℕ, List, [], ◌∷◌, Bool, true, false, ℤ, Err, None, Ok, Option, Result, Some}
use Rattle.iff.specs.Refusals.{number, Answer, Test}
use Rattle.iff_desk.specs.declared.Early.{Early}
use Rattle.iff_desk.specs.declared.Early.TheVariants.{SameService, FromRests, ToRests, StationsDiffer, NobodyAlights, NobodyBoards}
use Rattle.iff_desk.specs.declared.Source.{Source}
use Rattle.iff_desk.specs.declared.Source.TheVariants.{FromChanges, FromStations}
use Rattle.iff_desk.specs.declared.Bar.{Bar}
use Rattle.iff_desk.specs.declared.Bar.TheVariants.{Pair00, Flag0}
use Rattle.iff_desk.specs.declared.Change.{Change}
use Rattle.iff_desk.specs.declared.Change.TheVariants.{NoBefore, NoBarred, NoShort, Yes, Unsettled}
use Rattle.iff.specs.declared.Place.{Place}
use Rattle.iff.specs.declared.Reason.{Reason}
use Rattle.iff_desk.specs.declared.Moment.{Moment}
use Rattle.iff_desk.specs.declared.StopTimes.{StopTimes}
use Rattle.iff.specs.declared.LocalMinutes.{LocalMinutes}
use Rattle.iff.specs.declared.ReferenceMinutes.{ReferenceMinutes}

-- a time on both clocks
abbrev pub moment_of : LocalMinutes → ReferenceMinutes → Option Moment
moment_of local reference = Some (record { local = local; reference = reference })

-- a load or an amendment: the refusal's number, 0 where it is accepted; its place; the days and services of one that is accepted
abbrev pub answer_number : Answer → ℕ
answer_number (Ok done) = 0
answer_number (Err fault) = number fault.reason

abbrev pub answer_place : Answer → Option Place
answer_place (Ok done) = None
answer_place (Err fault) = fault.place

abbrev pub answer_days : Answer → ℕ
answer_days (Ok done) = done.days
answer_days (Err fault) = 0

abbrev pub answer_services : Answer → ℕ
answer_services (Ok done) = done.services
answer_services (Err fault) = 0

-- WHAT REFUSALS 11 TO 17 SHARE: their place is 0, 0, 0
abbrev pub nowhere : Option Place
nowhere = None

-- NAME AND LINES NOW: the refusal's number, 0 where there is a part
abbrev pub part_number : Test → ℕ
part_number (Ok _) = 0
part_number (Err r) = number r

abbrev pub part_place : Test → Option Place
part_place (Ok _) = nowhere
part_place (Err r) = nowhere

-- RUNNING DAY: the refusal's number, 0 where the question is answered; whether it runs, as a list of one or of none
abbrev pub running_number : Result Bool Reason → ℕ
running_number (Ok true) = 0
running_number (Ok false) = 0
running_number (Err r) = number r

abbrev pub running_place : Result Bool Reason → Option Place
running_place (Ok true) = nowhere
running_place (Ok false) = nowhere
running_place (Err r) = nowhere

abbrev pub running_shown : Result Bool Reason → List Bool
running_shown (Ok true) = true ∷ []
running_shown (Ok false) = false ∷ []
running_shown (Err r) = []

-- STOP TIME: "station, local and reference arrival and departure, each perhaps none"
abbrev pub stop_time_number : Result StopTimes Reason → ℕ
stop_time_number (Ok t) = 0
stop_time_number (Err r) = number r

abbrev pub stop_time_place : Result StopTimes Reason → Option Place
stop_time_place (Ok t) = nowhere
stop_time_place (Err r) = nowhere

abbrev pub station_shown : Result StopTimes Reason → List ℕ
station_shown (Ok t) = t.station ∷ []
station_shown (Err r) = []

abbrev pub local_shown : Option Moment → List ℤ
local_shown (Some moment) = moment.local.0 ∷ []
local_shown None = []

abbrev pub reference_shown : Option Moment → List ℤ
reference_shown (Some moment) = moment.reference.0 ∷ []
reference_shown None = []

abbrev pub arrival_shown : Result StopTimes Reason → Option Moment
arrival_shown (Ok t) = t.arrival
arrival_shown (Err r) = None

abbrev pub departure_shown : Result StopTimes Reason → Option Moment
departure_shown (Ok t) = t.departure
departure_shown (Err r) = None

-- CHANGE
abbrev pub change_number : Result Change Reason → ℕ
change_number (Err r) = number r
change_number (Ok c) = 0

abbrev pub change_place : Result Change Reason → Option Place
change_place (Err r) = nowhere
change_place (Ok c) = nowhere

-- "No .. Unsettled .. else Yes"
pub data Word : Type 0 where
  no yes unsettled none : Word

abbrev pub verdict : Result Change Reason → Word
verdict (Err r) = none
verdict (Ok (NoBefore e)) = no
verdict (Ok (NoBarred g b)) = no
verdict (Ok (NoShort g s n)) = no
verdict (Ok (Yes g s n)) = yes
verdict (Ok (Unsettled g s n)) = unsettled

-- "A No shows its reason.": the first that holds, in the paper's order
pub data Why : Type 0 where
  same_service_and_date from_rests to_rests stations_differ nobody_alights nobody_boards pair_00 flag_0 gap_below_needed : Why

abbrev pub why_early : Early → Why
why_early SameService = same_service_and_date
why_early FromRests = from_rests
why_early ToRests = to_rests
why_early StationsDiffer = stations_differ
why_early NobodyAlights = nobody_alights
why_early NobodyBoards = nobody_boards

abbrev pub why_barred : Bar → Why
why_barred Pair00 = pair_00
why_barred Flag0 = flag_0

-- a list of one for a No, and of none for any other answer
abbrev pub why : Result Change Reason → List Why
why (Err r) = []
why (Ok (NoBefore e)) = why_early e ∷ []
why (Ok (NoBarred g b)) = why_barred b ∷ []
why (Ok (NoShort g s n)) = gap_below_needed ∷ []
why (Ok (Yes g s n)) = []
why (Ok (Unsettled g s n)) = []

-- "Gap, source and needed time are shown as far as reached": a list of one, or of none
abbrev pub gap_shown : Result Change Reason → List ℤ
gap_shown (Err r) = []
gap_shown (Ok (NoBefore e)) = []
gap_shown (Ok (NoBarred g b)) = g ∷ []
gap_shown (Ok (NoShort g s n)) = g ∷ []
gap_shown (Ok (Yes g s n)) = g ∷ []
gap_shown (Ok (Unsettled g s n)) = g ∷ []

-- "00 and flag 0 have a source and no needed time"
abbrev pub bar_source : Bar → Source
bar_source Pair00 = FromChanges
bar_source Flag0 = FromStations

abbrev pub source_shown : Result Change Reason → List Source
source_shown (Err r) = []
source_shown (Ok (NoBefore e)) = []
source_shown (Ok (NoBarred g b)) = bar_source b ∷ []
source_shown (Ok (NoShort g s n)) = s ∷ []
source_shown (Ok (Yes g s n)) = s ∷ []
source_shown (Ok (Unsettled g s n)) = s ∷ []

abbrev pub needed_shown : Result Change Reason → List ℕ
needed_shown (Err r) = []
needed_shown (Ok (NoBefore e)) = []
needed_shown (Ok (NoBarred g b)) = []
needed_shown (Ok (NoShort g s n)) = n ∷ []
needed_shown (Ok (Yes g s n)) = n ∷ []
needed_shown (Ok (Unsettled g s n)) = n ∷ []
