-- TIMETBLS with a block in the place of its rows from `from` on and before `to`: its length in bytes, its number of lines, and what tests 1 and 2 say.
use Rattle.std.specs.Prelude.{ℕ, ◌+◌, ◌-◌, ◌*◌, ◌≤◌, ◌<◌, List, length}
use Rattle.iff.specs.Lists.{total}
use Rattle.iff.specs.Files.{limit}
use Rattle.iff.specs.Lines.{lines}
use Rattle.iff.specs.Refusals.{or_else, Verdict}
use Rattle.iff.specs.Tables.{row_width}
use Rattle.iff.specs.declared.File.TheVariants.{Timetbls}
use Rattle.iff.specs.declared.Form.{Form}
use Rattle.iff_rules.specs.Load.{length_verdict, room_verdict}
use Rattle.iff_desk.specs.Sound.{row_size, first_size}
use Rattle.keys.specs.Blocks.{rows_between}

-- the rows in use stand in the table, some of them give way, and all were within test 1's bound
pub record Editable (form : Form) (t : List ℕ) (used from to : ℕ) : Type 0 where
  pub some : from < to
  pub within : to ≤ used
  pub lies : used * row_width Timetbls ≤ length t
  pub short : first_size + total (row_size form Timetbls) (rows_between (row_width Timetbls) t 1 used) ≤ limit

-- "Test 1 counts the edited text by its lines' lengths": the first line's, those of the rows that stay, and the block's n bytes
abbrev pub edited_bytes : Form → List ℕ → ℕ → ℕ → ℕ → ℕ → ℕ
edited_bytes form t used from to n =
    first_size + total (row_size form Timetbls) (rows_between (row_width Timetbls) t 1 from) + n
    + total (row_size form Timetbls) (rows_between (row_width Timetbls) t to used)

unfoldable pub sizes_verdict : Form → List ℕ → ℕ → ℕ → ℕ → List ℕ → Verdict
sizes_verdict form t used from to b =
    or_else (length_verdict Timetbls (edited_bytes form t used from to (length b)))
    (room_verdict Timetbls (from + length (lines b) + (used - to)) (length t))
