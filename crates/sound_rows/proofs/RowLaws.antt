-- The tests of one row of a file of rows, by what the code found. Assumes nothing.
use Prim.Native.Nat.{ℕ, suc, ◌+◌, ◌-◌, ◌*◌, ◌≤◌}
use mathlib.Core.Path.{◌≡◌, ◌∙◌}
use mathlib.Core.List.{List}
use mathlib.Core.Bool.{Bool, true, ◌&&◌}
use native.Mathlib.Omega.{arith}
use lib.Dec.{eqb}
use lib.ListN.{take, drop}
use Rattle.iff.specs.Lists.{all_of}
use Rattle.iff.specs.Columns.{record_fields, record_of, fields_of}
use Rattle.iff.specs.Values.{word_count}
use Rattle.iff.specs.Tables.{Row, tag, letterless, row_at, row_width}
use Rattle.iff.specs.declared.RowFile.{RowFile}
use Rattle.iff.specs.declared.RowFile.TheVariants.{Company, Country, Trnsmode, Stations}
use Rattle.iff.specs.declared.File.{File}
use Rattle.iff.specs.declared.File.TheVariants.{Rows}
use Rattle.iff.specs.declared.Form.{Form}
use Rattle.iff.specs.declared.Record.{Record}
use Rattle.iff_rules.specs.Rows.{Context}
use Rattle.iff_rules.specs.Meaning.{row_meaning}
use Rattle.iff_rules.specs.References.{met_by_row}
use Rattle.iff_desk.specs.Sound.{shaped, sound_plain_row}
use Rattle.walks.proofs.GroupLaws.{part_is_row}

-- a row has a word for every field that leaves one, and for its tag
pub roomy : (form : Form) (f : RowFile) (x : ℕ) → suc (word_count (record_fields form (record_of (Rows f) x))) ≤ row_width (Rows f)
unfolding record_of record_fields
roomy form Company x = omega arith
roomy form Country x = omega arith
roomy form Trnsmode x = omega arith
roomy form Stations x = omega arith

pub fits_row : (form : Form) (f : RowFile) (x : ℕ) (rec : Record) (n : ℕ) → rec ≡ record_of (Rows f) x → n ≡ row_width (Rows f)
    → suc (word_count (record_fields form rec)) ≤ n
fits_row form f x rec n e h = rw (e, h) (roomy form f x)

-- the fields of a record by its letter, in the form of any delivery that has this one
pub shape_is : (form given : Form) (f : File) (r : Row) (rec : Record) (b : Bool) → given ≡ form → rec ≡ record_of f (tag r)
    → b ≡ shaped (record_fields form rec) r
    → b ≡ shaped (fields_of given f (tag r)) r
unfolding fields_of
shape_is form given f r rec b d e h = rw (d, ← e) h

-- the tests in turn: a row's verdict by what each of them says, as far as they are made
module _ (c : Context) (f : RowFile) (count : ℕ) (r : Row) where
  pub plain_by : (k s m x q : Bool) → eqb (tag r) letterless ≡ k → shaped (fields_of c.form (Rows f) (tag r)) r ≡ s → row_meaning f count r ≡ m
      → met_by_row c f r ≡ x
      → q ≡ (k && (s && (m && (x && true))))
      → q ≡ sound_plain_row c f count r
  unfolding sound_plain_row all_of
  plain_by k s m x q e g h i j = rw (e, g, h, i) j

-- a row that is a part of its table
pub at_row : (c : Context) (f : RowFile) (count w i : ℕ) (t : List ℕ) (b : Bool)
    → b ≡ sound_plain_row c f count (take (i * w + w - i * w) (drop (i * w) t))
    → b ≡ sound_plain_row c f count (row_at w t i)
at_row c f count w i t b e = e ∙ rw (part_is_row w i t)
