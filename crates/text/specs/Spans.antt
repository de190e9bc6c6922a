-- A line where it stands in a text.
use Rattle.std.specs.Prelude.{ℕ, ◌-◌, ◌≤◌, ◌<◌, ◌≡◌, List, ◌∷◌, length, take, drop}
use Rattle.iff.specs.Lines.{Line, lines}
use Rattle.text.specs.declared.LineSpan.{LineSpan}

-- the line from `at` on, by where it ends
abbrev pub span_line : List ℕ → ℕ → LineSpan → Line
span_line t at s = record { body = take (s.end - at) (drop at t); ended = s.ended }

-- it is the first of the lines from `at` on, and the others begin at `next`; the bounds are what every index into it asks
pub record LineAt (t : List ℕ) (at : ℕ) (s : LineSpan) : Type 0 where
  pub low : at ≤ s.end
  pub top : s.end ≤ s.next
  pub more : at < s.next
  pub high : s.next ≤ length t
  pub head : lines (drop at t) ≡ span_line t at s ∷ lines (drop s.next t)
