-- Before the lines of groups are read.
use Rattle.std.specs.Prelude.{ℕ, ◌≤◌, List, Bool, true, false, length, take, drop}
use Rattle.iff.specs.Lines.{lines}
use Rattle.iff.specs.Tables.{Row, row_width}
use Rattle.iff.specs.declared.GroupFile.{GroupFile}
use Rattle.iff.specs.declared.GroupFile.TheVariants.{Timezone, Footnote, Changes, Xfootnote, Xchanges}
use Rattle.iff.specs.declared.File.TheVariants.{Groups}
use Rattle.reading.specs.Reading.{Begun}

-- the row that stands first in a table
abbrev pub first_in : GroupFile → List ℕ → Row
first_in f t = take (row_width (Groups f)) t

-- a file whose rows name rows of other files
abbrev pub names_others : GroupFile → Bool
names_others Timezone = false
names_others Footnote = false
names_others Changes = true
names_others Xfootnote = false
names_others Xchanges = true

-- a table that holds a first line's row, and a text whose other lines begin at `from`
pub record GroupsBegun (f : GroupFile) (text : List ℕ) (from : ℕ) (t : List ℕ) : Type 0 where
  pub inside : from ≤ length text
  pub begun : Begun (Groups f) (length (lines (drop from text))) (first_in f t) t
