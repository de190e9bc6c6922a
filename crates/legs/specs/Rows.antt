-- What the test of legs sees of rows: the records that name stops, and how often a leg lies in one of some kind.
use Rattle.std.specs.Prelude.{ℕ, ◌≤◌, ◌≡◌, [], ◌∷◌, Bool, true, cond, eqb, length}
use Rattle.iff.specs.Bytes.{percent, dash, ampersand, asterisk}
use Rattle.iff.specs.Lists.{has}
use Rattle.iff.specs.Tables.{Row, tag}
use Rattle.iff_rules.specs.Legs.{first_stop, last_stop, lies, one, reach_of, in_range}
use Rattle.legs.specs.declared.Span.{Span}

-- the kinds whose records cover the legs
unfoldable pub covers : ℕ → Bool
covers x = has x (percent ∷ dash ∷ ampersand ∷ [])

-- the records that name a first and a last stop
unfoldable pub names_stops : ℕ → Bool
names_stops x = has x (percent ∷ dash ∷ ampersand ∷ asterisk ∷ [])

-- how often leg k lies in a record, as one of kind x: once or not at all
unfoldable pub times : ℕ → ℕ → Row → ℕ
times x k r = cond (eqb (tag r) x) (one (lies k r)) 0

-- what a span is of a record's row
pub record SpanOf (r : Row) (s : Span) : Type 0 where
  pub first : s.first ≡ first_stop r
  pub last : s.last ≡ last_stop r

-- what marking asks of a row
pub record Markable (r : Row) (n x room : ℕ) : Type 0 where
  pub kind : covers x ≡ true
  pub fit : n ≤ room
  pub wide : 5 ≤ length r
  pub within : in_range reach_of n r ≡ true
