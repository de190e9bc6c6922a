-- A sheet's list of answers in words.
use Rattle.std.specs.Prelude.{ℕ, ◌-◌, ◌*◌, List, [], ◌∷◌, ◌++◌, map, ℤ, pos, negsuc, drop, Err, Ok, Result}
use Rattle.iff.specs.Files.{PerFile}
use Rattle.iff.specs.Tables.{Row, joined}
use Rattle.iff_desk.specs.Answers.{gap_shown}
use Rattle.iff_desk.specs.Sheet.{answer_width, asked, answers_to, sheet_test}
use Rattle.iff_desk.specs.declared.Change.{Change}
use Rattle.numbers.specs.Numbers.{minutes_or0}
use Rattle.change_numbers.specs.Numbers.{change_words}
use Rattle.iff.specs.Refusals.{Test}
use Rattle.iff.specs.declared.Reason.{Reason}

-- a number with a sign as a word, its two's complement: what is below zero counts down from the largest word
abbrev pub signed_word : ℤ → ℕ
signed_word (pos n) = n
signed_word (negsuc n) = 18446744073709551615 - n

-- eight words: the seven of a change's answer, and the gap
unfoldable pub sheet_words : Result Change Reason → Row
sheet_words a = change_words a ++ (signed_word (minutes_or0 (gap_shown a)) ∷ [])

-- the answers, and the rest of the list as it was
unfoldable pub answered_in : List (Result Change Reason) → List ℕ → ℕ → List ℕ
answered_in answers list n = joined (map sheet_words answers) ++ drop (n * answer_width) list

-- "both write no answer"
abbrev pub list_after : Test → List ℕ → List ℕ → List ℕ
list_after (Err r) list answered = list
list_after (Ok _) list answered = answered

-- the lent list after the call
abbrev pub sheet_list : PerFile (List ℕ) → List ℕ → List ℕ → List ℕ
sheet_list T qs list = list_after (sheet_test T qs list) list (answered_in (answers_to T qs) list (asked qs))
