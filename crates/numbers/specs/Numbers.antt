-- The answer of a load or an amendment in plain numbers, and what is shown of any answer.
use Rattle.std.specs.Prelude.{ℕ, List, [], ◌∷◌, ℤ, pos}
use Rattle.iff.specs.Files.{file_at}
use Rattle.iff.specs.Refusals.{ordinal, line_at, Answer}
use Rattle.iff_desk.specs.Answers.{answer_number, answer_place, answer_days, answer_services}

-- six numbers, the paper's own: the refusal, 0 where there is none; its file, ordinal and line; the days and the services
abbrev pub answer_words : Answer → List ℕ
answer_words a =
    let place = answer_place a in
    answer_number a ∷ file_at place ∷ ordinal place ∷ line_at place ∷ answer_days a ∷ answer_services a ∷ []

-- A VALUE THAT IS SHOWN OR NOT, a list of one or of none: 1 or 0 whether it is shown; the value itself, 0 where it is not
abbrev pub is_shown : {A : Type 0} → List A → ℕ
is_shown [] = 0
is_shown (x ∷ xs) = 1

abbrev pub number_or0 : List ℕ → ℕ
number_or0 [] = 0
number_or0 (n ∷ ns) = n

abbrev pub minutes_or0 : List ℤ → ℤ
minutes_or0 [] = pos 0
minutes_or0 (m ∷ ms) = m
