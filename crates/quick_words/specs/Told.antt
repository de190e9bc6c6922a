-- What is told of a record that stands somewhere in a text.
use Rattle.std.specs.Prelude.{ℕ, ◌+◌, ◌≤◌, ◌≡◌, List, [], ◌∷◌, ◌++◌, Bool, true, length, drop}
use Rattle.iff.specs.Lists.{all, has}
use Rattle.iff.specs.Lines.{lines, letter}
use Rattle.iff.specs.Columns.{Field, picture, columns}
use Rattle.iff.specs.Values.{field_right, words}
use Rattle.iff.specs.Tables.{Row, padded}
use Rattle.iff.specs.declared.Form.{Form}
use Rattle.iff.specs.declared.File.{File}
use Rattle.iff.specs.declared.File.TheVariants.{Timetbls}
use Rattle.iff_rules.specs.Order.{known_in_block}
use Rattle.iff_rules.specs.Rows.{row_of, block_row, Context}
use Rattle.iff_rules.specs.Meaning.{block_meaning}
use Rattle.iff_rules.specs.References.{met_in_block}
use Rattle.records.specs.Layouts.{legible}
use Rattle.keys.specs.Lookup.{keys_among}
use Rattle.quick_lines.specs.Pictures.{columns_at, line_here, Pictured}
use Rattle.quick_words.specs.declared.Words.{Words}

-- by its fields, in a block of n stops: it looks like its picture, its codes are not blank, and its words and some more are kept
pub record Told (t : List ℕ) (at : ℕ) (fs : List Field) (n : ℕ) (more : List ℕ) (r : Words) : Type 0 where
  pub seen : Pictured t at (picture fs)
  pub wide : r.width ≡ length (picture fs)
  pub right : all (λ f. field_right f.class (columns (columns_at t at r.width) f)) fs ≡ true
  pub kept : padded 4 (words n (columns_at t at r.width) fs ++ more) ≡ r.one ∷ r.two ∷ r.three ∷ r.four ∷ []

-- its words are right too: its times, where it has any, and what it names is there among so many of a table's first rows
pub record Tested (t : List ℕ) (at : ℕ) (fs : List Field) (n : ℕ) (means : Bool) (f : File) (used : ℕ) (rows : List ℕ) (key : ℕ) (r : Words) : Type 0 where
  pub told : Told t at fs n [] r
  pub timed : means ≡ true
  pub met : has key (keys_among f used rows) ≡ true

-- the rules say of a line's row in its block what they say of its own row
pub record Alike (c : Context) (stops : ℕ) (in_block alone : Row) : Type 0 where
  pub means : block_meaning stops in_block ≡ block_meaning stops alone
  pub met : met_in_block c in_block ≡ met_in_block c alone

-- by its letter, in a block of k lines and n stops: it is the line there, it can be read, and its row is made of the words
pub record Seen (form : Form) (t : List ℕ) (at x n k : ℕ) (r : Words) : Type 0 where
  pub room : at + r.width + 2 ≤ length t
  pub head : lines (drop at t) ≡ line_here t at r.width ∷ lines (drop (at + r.width + 2) t)
  pub known : known_in_block x ≡ true
  pub begins : letter (line_here t at r.width) ≡ x
  pub laid : legible form (line_here t at r.width) ≡ true
  pub row : (j : ℕ) → block_row form n k j (line_here t at r.width) ≡ x ∷ r.one ∷ r.two ∷ r.three ∷ r.four ∷ 0 ∷ j ∷ []
  pub alike : (c : Context) (stops j : ℕ)
      → Alike c stops (block_row form n k j (line_here t at r.width)) (row_of form Timetbls (line_here t at r.width))
