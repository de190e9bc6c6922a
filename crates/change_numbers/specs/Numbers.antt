-- The answer to a change in plain numbers.
use Rattle.std.specs.Prelude.{ℕ, List, [], ◌∷◌, ℤ, Result}
use Rattle.iff_desk.specs.Answers.{change_number, Word, verdict, Why, why, gap_shown, source_shown, needed_shown}
use Rattle.iff_desk.specs.declared.Source.{Source}
use Rattle.iff_desk.specs.declared.Source.TheVariants.{FromChanges, FromStations, FromXchanges}
use Rattle.iff_desk.specs.declared.Change.{Change}
use Rattle.numbers.specs.Numbers.{is_shown, number_or0, minutes_or0}
use Rattle.iff.specs.declared.Reason.{Reason}

-- seven numbers: the refusal; 1 No, 2 Yes, 3 Unsettled; why a No, in the paper's order; whether a gap was reached; the source;
-- whether a needed time was reached, and that time
abbrev pub verdict_number : Word → ℕ
verdict_number Word.none = 0
verdict_number Word.no = 1
verdict_number Word.yes = 2
verdict_number Word.unsettled = 3

abbrev pub why_of : Why → ℕ
why_of Why.same_service_and_date = 1
why_of Why.from_rests = 2
why_of Why.to_rests = 3
why_of Why.stations_differ = 4
why_of Why.nobody_alights = 5
why_of Why.nobody_boards = 6
why_of Why.pair_00 = 7
why_of Why.flag_0 = 8
why_of Why.gap_below_needed = 9

abbrev pub why_number : List Why → ℕ
why_number [] = 0
why_number (w ∷ ws) = why_of w

abbrev pub source_of : Source → ℕ
source_of FromChanges = 1
source_of FromStations = 2
source_of FromXchanges = 3

abbrev pub source_number : List Source → ℕ
source_number [] = 0
source_number (s ∷ ss) = source_of s

abbrev pub change_words : Result Change Reason → List ℕ
change_words a =
    change_number a
    ∷ verdict_number (verdict a)
    ∷ why_number (why a)
    ∷ is_shown (gap_shown a)
    ∷ source_number (source_shown a)
    ∷ is_shown (needed_shown a)
    ∷ number_or0 (needed_shown a)
    ∷ []

-- and the gap, in minutes
abbrev pub change_gap : Result Change Reason → List ℤ
change_gap a = minutes_or0 (gap_shown a) ∷ []
