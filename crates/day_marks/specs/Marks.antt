-- What the days ask of a word of marks.
use Rattle.std.specs.Prelude.{ℕ, ◌^◌, Bool, cond, ltb, leb}

-- a word of marks has none beyond the days that are left
unfoldable pub marks_fit : ℕ → ℕ → Bool
marks_fit w days = ltb w (2 ^ cond (leb 64 days) 64 days)
