-- A BLOCK THAT IS WRITTEN: what its lines and the table must be.
use Rattle.std.specs.Prelude.{ℕ, ◌+◌, ◌*◌, ◌≤◌, List, length, get_or}
use Rattle.iff.specs.Columns.{block_record}
use Rattle.iff.specs.Tables.{row_width}
use Rattle.iff.specs.declared.File.TheVariants.{Timetbls}
use Rattle.iff.specs.declared.Form.{Form}
use Rattle.records.specs.Facts.{Legible}
use Rattle.blocks.specs.Whole.{WholeBlock}

-- a line whose record can be read, by its own letter, into so many words
abbrev pub Readable : Form → List ℕ → ℕ → Type 0
Readable form body room = Legible form (block_record (get_or body 0 0)) body room

-- a block of k lines and n stops, and room for its rows from row i on
pub record Placeable (form : Form) (b t : List ℕ) (k n i : ℕ) : Type 0 where
  pub whole : WholeBlock form b k n
  pub room : (i + k) * row_width Timetbls ≤ length t
