-- What the short way tells.
use Rattle.std.specs.Prelude.{ℕ, ◌+◌, ◌≤◌, ◌≡◌, List, Bool, true, length}
use Rattle.iff.specs.Lists.{total}
use Rattle.iff.specs.Files.{limit}
use Rattle.iff.specs.Tables.{Row}
use Rattle.iff.specs.declared.File.{File}
use Rattle.iff.specs.declared.Form.{Form}
use Rattle.iff_desk.specs.Sound.{row_size, first_size}

-- where it says so, the lines of any rows, so many at the most, fit behind a first line
pub record FewLines (form : Form) (f : File) (used : ℕ) (r : Bool) : Type 0 where
  pub fit : r ≡ true → (rows : List Row) → length rows ≤ used → first_size + total (row_size form f) rows ≤ limit
