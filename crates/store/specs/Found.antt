-- What a lookup in a sound store asks of a table, and what it answers: some rows of the table, one row, or none.
use Rattle.std.specs.Prelude.{ℕ, ◌+◌, ◌*◌, ◌≤◌, ◌≡◌, List, true, length, None, Option, Some}
use Rattle.iff.specs.Bytes.{hash}
use Rattle.iff.specs.Tables.{Row, row_width, row_at, rows_in, key_tag, key_word, keys_of}
use Rattle.iff.specs.Words.{line_count, stop_count}
use Rattle.iff.specs.declared.File.{File}
use Rattle.iff.specs.declared.File.TheVariants.{Timetbls}
use Rattle.iff_rules.specs.Rows.{first_of}
use Rattle.iff_rules.specs.Legs.{stops_of}
use Rattle.iff_desk.specs.Sound.{distinct}
use Rattle.iff_desk.specs.Store.{no_row, group_of}
use Rattle.keys.specs.Blocks.{rows_between}
use Rattle.store.specs.declared.Part.{Part}

-- A TABLE OF A SOUND STORE: its rows in use are counted, and no two of them name one key
pub record Stored (f : File) (used : ℕ) (t : List ℕ) : Type 0 where
  pub counted : used ≡ length (rows_in f t)
  pub once : distinct (keys_of f (rows_in f t)) ≡ true

-- a file whose keys open groups
pub record HasGroups (f : File) : Type 0 where
  pub tag : key_tag f ≡ hash
  pub word : key_word f ≡ 1

-- A PART of a table: its rows
abbrev pub rows_of : ℕ → List ℕ → Part → List Row
rows_of w t p = rows_between w t p.from p.to

-- it stands in the table
pub record Inside (w : ℕ) (t : List ℕ) (p : Part) : Type 0 where
  pub order : p.from ≤ p.to
  pub fits : p.to * w ≤ length t

-- the group of a key; where there is none the part has no row
pub record GroupAt (f : File) (used : ℕ) (t : List ℕ) (key : ℕ) (p : Part) : Type 0 where
  pub is : group_of key (rows_in f t) ≡ rows_of (row_width f) t p
  pub inside : Inside (row_width f) t p
  pub in_use : p.to ≤ used

-- BLOCKS of TIMETBLS whose `#` rows tell how many lines they have, and how many stops
pub record BlocksTold (t : List ℕ) : Type 0 where
  pub lines : (key : ℕ) → length (group_of key (rows_in Timetbls t)) ≡ line_count (first_of (group_of key (rows_in Timetbls t)))
  pub stops : (key : ℕ) → stops_of (group_of key (rows_in Timetbls t)) ≡ stop_count (first_of (group_of key (rows_in Timetbls t)))

-- A ROW that was looked for, and what a reader takes it for where there is none
abbrev pub row_or : ℕ → List ℕ → Option ℕ → Row
row_or w t (Some i) = row_at w t i
row_or w t None = no_row

abbrev pub Stands : ℕ → List ℕ → Option ℕ → Type 0
Stands w t r = (i : ℕ) → r ≡ Some i → i * w + w ≤ length t

-- what was looked for is that row
pub record RowFor (w : ℕ) (t : List ℕ) (row : Row) (r : Option ℕ) : Type 0 where
  pub is : row ≡ row_or w t r
  pub stands : Stands w t r
