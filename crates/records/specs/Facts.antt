-- What the functions of this crate ask and tell, by name.
use Rattle.std.specs.Prelude.{ℕ, suc, ◌+◌, ◌-◌, ◌≤◌, ◌≡◌, List, ◌∷◌, Bool, true, ◌&&◌, eqb, leb, length, Ok}
use Rattle.std.proofs.Math.Seq.{slice}
use Rattle.iff.specs.Lists.{all}
use Rattle.iff.specs.Lines.{Line}
use Rattle.iff.specs.Columns.{Field, picture, record_fields, fits, figures}
use Rattle.iff.specs.Values.{words, words_of, word_count, readable}
use Rattle.iff.specs.Tables.{padded}
use Rattle.iff.specs.declared.Form.{Form}
use Rattle.iff.specs.declared.Record.{Record}
use Rattle.records.specs.declared.Entry.{Entry}
use Rattle.records.specs.declared.Spans.{Spans}
use Rattle.records.specs.declared.Looks.{Looks}
use Rattle.records.specs.Layouts.{fields, field_at, byte_of, picture_in, layout_test}
use Rattle.iff.specs.Refusals.{Test}

-- LEGIBLE: a line whose layout and values are right, so that its words can be read, and room for them and the tag
pub record Legible (form : Form) (r : Record) (body : List ℕ) (room : ℕ) : Type 0 where
  pub fitting : fits body (picture (record_fields form r)) ≡ true
  pub reading : readable body (record_fields form r) ≡ true
  pub roomy : suc (word_count (record_fields form r)) ≤ room

-- a line's layout and values; its row where both are right
pub record LineRead (form : Form) (kind : Record) (t : ℕ) (l : Line) (was is : List ℕ) (r : Test) : Type 0 where
  pub test : r ≡ layout_test l (record_fields form kind)
  pub row : r ≡ Ok tt → is ≡ padded (length was) (t ∷ words 0 l.body (record_fields form kind))
  pub kept : length is ≡ length was

-- entry j of the table of fields
pub record EntryOf (j : ℕ) (e : Entry) : Type 0 where
  pub begins : e.0 ≡ (field_at j).from
  pub low : 1 ≤ e.0
  pub wide : e.1 ≡ (field_at j).width
  pub classed : e.2 ≡ byte_of (field_at j).class

-- a line beside a picture
pub record LooksBy (body pic : List ℕ) (l : Looks) : Type 0 where
  pub fitting : l.0 ≡ fits body pic
  pub figured : l.1 ≡ figures body pic

-- a field lies in a line of so many bytes, and leaves one word
pub record Inside (room : ℕ) (f : Field) : Type 0 where
  pub within : f.from - 1 + f.width ≤ room
  pub small : f.width ≤ 8
  pub one : words_of f.class ≡ 1

-- the same as a test, which computes
abbrev pub is_inside : ℕ → Field → Bool
is_inside room f = leb (f.from - 1 + f.width) room && (leb f.width 8 && eqb (words_of f.class) 1)

-- some entries of the table, all of them inside a line
pub record Entries (first end : ℕ) (line : List ℕ) : Type 0 where
  pub in_turn : first ≤ end
  pub in_table : end ≤ 51
  pub all_inside : all (is_inside (length line)) (slice first end fields) ≡ true

-- a part of the two tables, with the fields of a line that fits it
pub record SpansFit (s : Spans) (line : List ℕ) : Type 0 where
  pub low : s.0 ≤ s.1
  pub top : s.1 ≤ 511
  pub fitted : fits line (picture_in s) ≡ true → Entries s.2 s.3 line
