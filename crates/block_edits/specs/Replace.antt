-- A BLOCK THAT GIVES WAY TO ANOTHER: what the table, the rows named and the new block must be.
use Rattle.std.specs.Prelude.{ℕ, ◌+◌, ◌-◌, ◌*◌, ◌≤◌, ◌≡◌, List, true, length, drop}
use Rattle.iff.specs.Tables.{row_width, all_zero}
use Rattle.iff.specs.declared.File.TheVariants.{Timetbls}
use Rattle.iff.specs.declared.Form.{Form}
use Rattle.blocks.specs.Whole.{WholeBlock}

-- rows `from` to `to` (not included) of the `used` rows of a table, whose unused places are zero, and a block of so many lines and stops,
-- for which there is room with the rows that stay
pub record Replaceable (form : Form) (b t : List ℕ) (used from to lines stops : ℕ) : Type 0 where
  pub ordered : from ≤ to
  pub within : to ≤ used
  pub lies : used * row_width Timetbls ≤ length t
  pub roomy : (from + lines + (used - to)) * row_width Timetbls ≤ length t
  pub unused : all_zero (drop (used * row_width Timetbls) t) ≡ true
  pub whole : WholeBlock form b lines stops
