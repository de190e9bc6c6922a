-- What the test of legs asks of a block's rows in a table, and what it sees of them.
use Rattle.std.specs.Prelude.{ℕ, ◌+◌, ◌*◌, ◌≤◌, ◌≡◌, List, true, length}
use Rattle.iff.specs.Lists.{all, total}
use Rattle.iff.specs.Tables.{Row, row_at, row_width}
use Rattle.iff.specs.declared.File.TheVariants.{Timetbls}
use Rattle.iff_rules.specs.Meaning.{most_stops}
use Rattle.iff_rules.specs.Legs.{reach_of, in_range, stops_of}
use Rattle.legs.specs.Rows.{covers, times}
use Rattle.linked_legs.specs.Links.{block_between}

-- WHAT THE TEST ASKS: rows that stand in the table, and their number of stops, which the columns of first and last can hold
pub record BlockOfStops (t : List ℕ) (from to n : ℕ) : Type 0 where
  pub rises : from ≤ to
  pub inside : to * row_width Timetbls ≤ length t
  pub stops : n ≡ stops_of (block_between t from to)
  pub few : n ≤ most_stops

-- one row in range, of which a kind is asked
pub record RowMarkable (t : List ℕ) (i n x room : ℕ) : Type 0 where
  pub inside : i * row_width Timetbls + row_width Timetbls ≤ length t
  pub kind : covers x ≡ true
  pub fit : n ≤ room
  pub within : in_range reach_of n (row_at (row_width Timetbls) t i) ≡ true

-- the rows of a block, all in range, of which a kind is asked
pub record RangedBlock (t : List ℕ) (from to n x room : ℕ) : Type 0 where
  pub inside : to * row_width Timetbls ≤ length t
  pub kind : covers x ≡ true
  pub fit : n ≤ room
  pub within : all (in_range reach_of n) (block_between t from to) ≡ true

-- how often leg k lies in records of kind x
abbrev pub rows_times : ℕ → List Row → ℕ → ℕ
rows_times x rs k = total (times x k) rs
