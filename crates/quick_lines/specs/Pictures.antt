-- A line of some columns, where it stands in a text.
use Rattle.std.specs.Prelude.{ℕ, ◌+◌, ◌≤◌, ◌≡◌, List, ◌∷◌, Bool, true, false, cond, eqb, length, take, drop}
use Rattle.iff.specs.Bytes.{comma, allowed, digit}
use Rattle.iff.specs.Lines.{Line, lines}
use Rattle.iff.specs.Columns.{fits, figures}

-- a column and a figure at once; 109 is a vector's mark, which no record of a block has
unfoldable pub right : ℕ → ℕ → Bool
right b p = cond (eqb p comma) (eqb b comma) (cond (eqb p 110) (digit b) (cond (eqb p 109) false (allowed b)))

-- the columns from `at` on as a line
abbrev pub columns_at : List ℕ → ℕ → ℕ → List ℕ
columns_at t at w = take w (drop at t)

abbrev pub line_here : List ℕ → ℕ → ℕ → Line
line_here t at w = record { body = columns_at t at w; ended = true }

-- they look like a picture, and CR LF ends them: so they are the first line from there on
pub record Pictured (t : List ℕ) (at : ℕ) (pic : List ℕ) : Type 0 where
  pub room : at + length pic + 2 ≤ length t
  pub head : lines (drop at t) ≡ line_here t at (length pic) ∷ lines (drop (at + length pic + 2) t)
  pub fitting : fits (columns_at t at (length pic)) pic ≡ true
  pub figured : figures (columns_at t at (length pic)) pic ≡ true
