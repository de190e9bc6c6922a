-- Answers put into a lent list one after the other. Assumes nothing.
use Rattle.std.specs.Prelude.{Result}
use Prim.Native.Nat.{ℕ, zero, suc, ◌+◌, ◌-◌, ◌*◌, ◌≤◌, ◌<◌}
use mathlib.Core.Path.{◌≡◌, refl, sym, ap, ◌∙◌}
use mathlib.Core.List.{List, [], ◌∷◌, map}
use mathlib.Core.Bool.{true}
use native.Mathlib.Nat.{sub-zero, zero-add}
use native.Mathlib.Omega.{arith}
use lib.ListN.{length}
use Rattle.iff.specs.Files.{PerFile}
use Rattle.iff.specs.Tables.{Row, put_row}
use Rattle.tables.proofs.Each.{Each}
use Rattle.tables.proofs.Put.{length_put}
use Rattle.tables.proofs.Puts.{Wide, put_rows, rows_put}
use Rattle.iff_desk.specs.Changing.{Side, change_in}
use Rattle.iff_desk.specs.Sheet.{answer_width, from_at, to_at, answers_by}
use Rattle.iff_desk.specs.declared.Change.{Change}
use Rattle.changing.specs.Sides.{side_of}
use Rattle.changing.specs.declared.Visit.{Visit}
use Rattle.sheet_answers.specs.Words.{sheet_words, answered_in}
use Rattle.iff.specs.declared.Reason.{Reason}

-- an answer has as many words as it is to have
pub eight_words : (a : Result Change Reason) → length (sheet_words a) ≡ answer_width
unfolding sheet_words
eight_words a = refl

all_wide : (answers : List (Result Change Reason)) → Each (Wide answer_width) (map sheet_words answers)
all_wide [] = tt
all_wide (a ∷ answers) = (eight_words a, all_wide answers)

module _ (answer : Side → Side → Result Change Reason) (qs : List ℕ) where
  -- the rows of n answers from question q on
  abbrev rows_from : ℕ → ℕ → List Row
  rows_from q n = map sheet_words (answers_by answer qs q n)

  so_many : (q n : ℕ) → length (rows_from q n) ≡ n
  unfolding answers_by
  so_many q zero = refl
  so_many q (suc n) = ap suc (so_many (suc q) n)

  -- the answer to question q
  abbrev words : ℕ → Row
  words q = sheet_words (answer (from_at qs q) (to_at qs q))

  step : (q m : ℕ) (list : List ℕ)
      → put_rows answer_width list q (rows_from q (suc m)) ≡ put_rows answer_width (put_row answer_width list q (words q)) (suc q) (rows_from (suc q) m)
  unfolding put_rows answers_by
  step q m list = refl

  -- what is left to be put makes the whole
  pub record Answering (asked : ℕ) (list₀ list : List ℕ) (q : ℕ) : Type 0 where
    pub wide : length list ≡ length list₀
    pub left : put_rows answer_width list₀ 0 (rows_from 0 asked) ≡ put_rows answer_width list q (rows_from q (asked - q))

  module _ (asked : ℕ) (list₀ : List ℕ) where
    pub starts : Answering asked list₀ list₀ 0
    starts = record { wide = refl; left = rw sub-zero }

    module _ (list : List ℕ) (q : ℕ) (a : Answering asked list₀ list q) where
      pub goes_on : (next : List ℕ) → q < asked → q * answer_width + answer_width ≤ length list → next ≡ put_row answer_width list q (words q)
          → Answering asked list₀ next (q + 1)
      goes_on next h room e =
          let m = asked - (q + 1) in
          let n : asked - q ≡ suc m = omega arith in
          let o : suc q ≡ q + 1 = omega arith in
          record {
            wide = rw e (length_put answer_width list q (words q) (eight_words (answer (from_at qs q) (to_at qs q))) room ∙ a.wide);
            left =
                a.left
                ∙ (ap (λ (k : ℕ). put_rows answer_width list q (rows_from q k)) n
                ∙ (step q m list
                ∙ (ap (λ (x : List ℕ). put_rows answer_width x (suc q) (rows_from (suc q) m)) (sym e)
                ∙ ap (λ (k : ℕ). put_rows answer_width next k (rows_from k m)) o)));
          }

      pub ends : asked ≤ q → asked * answer_width ≤ length list₀ → list ≡ answered_in (answers_by answer qs 0 asked) list₀ asked
      unfolding put_rows answers_by answered_in
      ends h room =
          let n : asked - q ≡ 0 = omega arith in
          let none : put_rows answer_width list q (rows_from q (asked - q)) ≡ list = rw n in
          sym (a.left ∙ none)
          ∙ rows_put answer_width (rows_from 0 asked) (all_wide (answers_by answer qs 0 asked)) list₀ 0 (rw (so_many, zero-add) room)
          ∙ rw (so_many, zero-add)

-- ONE ANSWER: that of the change between the two sides of a question, in words, put where it belongs
pub answer_put : (R : PerFile (List Row)) (qs : List ℕ) (q : ℕ) (from to : Visit) (a : Result Change Reason) (words list next : List ℕ)
    → side_of from ≡ from_at qs q → side_of to ≡ to_at qs q → a ≡ change_in true R (side_of from) (side_of to) → words ≡ sheet_words a
    → next ≡ put_row answer_width list q words
    → next ≡ put_row answer_width list q (sheet_words (change_in true R (from_at qs q) (to_at qs q)))
answer_put R qs q from to a words list next f t told is put =
    let sides =
    ap (λ (A : Side). change_in true R A (side_of to)) f ∙ ap (λ (B : Side). change_in true R (from_at qs q) B) t
    in
    put ∙ ap (put_row answer_width list q) (is ∙ ap sheet_words (told ∙ sides))
