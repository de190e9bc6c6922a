-- The lines of a block as the test of its legs sees them: each line's record alone, without the counts and the number that the block gives its row.
use Rattle.std.specs.Prelude.{ℕ, ◌≤◌, ◌<◌, ◌≡◌, List, ◌∷◌, Bool, true, length, get_or}
use Rattle.iff.specs.Lists.{all, total}
use Rattle.iff.specs.Lines.{Line, lines}
use Rattle.iff.specs.Columns.{record_fields, block_record}
use Rattle.iff.specs.Values.{words}
use Rattle.iff.specs.Tables.{Row, padded}
use Rattle.iff.specs.declared.Form.{Form}
use Rattle.iff_rules.specs.Meaning.{most_stops}
use Rattle.iff_rules.specs.Legs.{reach_of, in_range}
use Rattle.iff_rules.specs.Rows.{as_block, stops_in}
use Rattle.records.specs.Layouts.{legible}
use Rattle.records.specs.Facts.{Legible}
use Rattle.legs.specs.Rows.{covers, times}

-- WHAT THE TEST ASKS: the text of one block, every line legible, and its number of stops, which the columns of first and last can hold
pub record LegibleBlock (form : Form) (block : List ℕ) (n : ℕ) : Type 0 where
  pub some : 0 < length block
  pub stops : n ≡ stops_in (as_block block)
  pub few : n ≤ most_stops
  pub each : all (legible form) (lines block) ≡ true

-- a row of a block without its last word, the line's number
abbrev pub record_width : ℕ
record_width = 6

-- the row of a line's record alone
unfoldable pub line_row : Form → ℕ → List ℕ → Row
line_row form n b = padded record_width (get_or b 0 0 ∷ words n b (record_fields form (block_record (get_or b 0 0))))

-- a line that has one
abbrev pub CanBePut : Form → List ℕ → Type 0
CanBePut form b = Legible form (block_record (get_or b 0 0)) b record_width

unfoldable pub line_in_range : Form → ℕ → Line → Bool
line_in_range form n l = in_range reach_of n (line_row form n l.body)

abbrev pub line_times : Form → ℕ → ℕ → ℕ → Line → ℕ
line_times form n x k l = times x k (line_row form n l.body)

abbrev pub lines_times : Form → ℕ → ℕ → List Line → ℕ → ℕ
lines_times form n x ls k = total (line_times form n x k) ls

-- what marking asks of one line, and of all lines of a block
pub record LineMarkable (form : Form) (body : List ℕ) (n x room : ℕ) : Type 0 where
  pub kind : covers x ≡ true
  pub fit : n ≤ room
  pub legibly : CanBePut form body
  pub within : in_range reach_of n (line_row form n body) ≡ true

pub record AllMarkable (form : Form) (block : List ℕ) (n x room : ℕ) : Type 0 where
  pub kind : covers x ≡ true
  pub fit : n ≤ room
  pub legibly : all (legible form) (lines block) ≡ true
  pub within : all (line_in_range form n) (lines block) ≡ true
