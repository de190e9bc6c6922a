-- The answers to the questions but a change in plain numbers.
use Rattle.std.specs.Prelude.{ℕ, List, [], ◌∷◌, Bool, true, false, ℤ, Result}
use Rattle.iff.specs.Refusals.{number, Test}
use Rattle.iff.specs.declared.Reason.TheVariants.{NotSound}
use Rattle.iff_desk.specs.Answers.{part_number}
use Rattle.iff_desk.specs.Answers.{running_number, running_shown}
use Rattle.iff_desk.specs.Answers.{stop_time_number, station_shown, arrival_shown, departure_shown, local_shown, reference_shown}
use Rattle.numbers.specs.Numbers.{is_shown, number_or0, minutes_or0}
use Rattle.iff.specs.declared.Reason.{Reason}
use Rattle.iff_desk.specs.declared.StopTimes.{StopTimes}

-- SOUNDNESS: 0, or 16
abbrev pub sound_number : Bool → ℕ
sound_number true = 0
sound_number false = number NotSound

-- NAME: three numbers: the refusal; where the part begins, and where it ends
abbrev pub part_words : Test → ℕ → ℕ → List ℕ
part_words t from to = part_number t ∷ from ∷ to ∷ []

-- LINES NOW: four: after the refusal, 1 or 0 whether it is a part of the block
abbrev pub block_number : Bool → ℕ
block_number true = 1
block_number false = 0

abbrev pub lines_words : Test → Bool → ℕ → ℕ → List ℕ
lines_words t in_block from to = part_number t ∷ block_number in_block ∷ from ∷ to ∷ []

-- RUNNING DAY: two numbers: the refusal; 1 runs, 2 rests, 0 where it is refused
abbrev pub runs_number : List Bool → ℕ
runs_number [] = 0
runs_number (true ∷ bs) = 1
runs_number (false ∷ bs) = 2

abbrev pub running_words : Result Bool Reason → List ℕ
running_words a = running_number a ∷ runs_number (running_shown a) ∷ []

-- STOP TIME: four numbers: the refusal; the station; whether there is an arrival, whether a departure
abbrev pub stop_time_words : Result StopTimes Reason → List ℕ
stop_time_words a =
    stop_time_number a
    ∷ number_or0 (station_shown a)
    ∷ is_shown (local_shown (arrival_shown a))
    ∷ is_shown (local_shown (departure_shown a))
    ∷ []

-- and four of minutes: the arrival and the departure, each on the zone's clock and on the reference clock
abbrev pub stop_time_minutes : Result StopTimes Reason → List ℤ
stop_time_minutes a =
    minutes_or0 (local_shown (arrival_shown a))
    ∷ minutes_or0 (reference_shown (arrival_shown a))
    ∷ minutes_or0 (local_shown (departure_shown a))
    ∷ minutes_or0 (reference_shown (departure_shown a))
    ∷ []
