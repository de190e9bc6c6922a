-- Request W12, a sheet at a time: "a call that takes a list of questions, tests once, and fills a lent list of answers, each the one that the single
-- question gives". A question is six words: service, stop and date to change from, and to change to.
use Rattle.std.specs.Prelude.{ℕ, zero, suc, ◌+◌, ◌*◌, ◌/◌, List, [], ◌∷◌, length, leb, Result}
use Rattle.iff.specs.Files.{PerFile}
use Rattle.iff.specs.Refusals.{first_test, unless, Test}
use Rattle.iff.specs.Tables.{word}
use Rattle.iff.specs.declared.Reason.TheVariants.{NotSound, ShortList}
use Rattle.iff_desk.specs.Sound.{sound}
use Rattle.iff_desk.specs.Changing.{Side, change}
use Rattle.iff_desk.specs.declared.Change.{Change}
use Rattle.iff.specs.declared.Reason.{Reason}

-- how many words a question has, and an answer
abbrev pub question_width : ℕ
question_width = 6

abbrev pub answer_width : ℕ
answer_width = 8

-- how many questions a list holds, and how many answers there is room for: words that are too few for one more are none
abbrev pub asked : List ℕ → ℕ
asked qs = length qs / question_width

abbrev pub answer_room : List ℕ → ℕ
answer_room list = length list / answer_width

-- the two sides of question q, from 0
abbrev pub side_at : List ℕ → ℕ → Side
side_at qs at = record { service = word qs at; stop = word qs (at + 1); date = word qs (at + 2) }

abbrev pub from_at : List ℕ → ℕ → Side
from_at qs q = side_at qs (q * question_width)

abbrev pub to_at : List ℕ → ℕ → Side
to_at qs q = side_at qs (q * question_width + 3)

-- n questions from question q on, each answered by itself
unfoldable pub answers_by : (Side → Side → Result Change Reason) → List ℕ → ℕ → ℕ → List (Result Change Reason)
answers_by answer qs q zero = []
answers_by answer qs q (suc n) = answer (from_at qs q) (to_at qs q) ∷ answers_by answer qs (suc q) n

-- "each the one that the single question gives"
abbrev pub answers_to : PerFile (List ℕ) → List ℕ → List (Result Change Reason)
answers_to T qs = answers_by (change T) qs 0 (asked qs)

-- "23 answer list shorter than the questions"
abbrev pub room_test : List ℕ → List ℕ → Test
room_test qs list = unless (leb (asked qs) (answer_room list)) ShortList

-- "16, then 23"
unfoldable pub sheet_test : PerFile (List ℕ) → List ℕ → List ℕ → Test
sheet_test T qs list = first_test (unless (sound T) NotSound ∷ room_test qs list ∷ [])
