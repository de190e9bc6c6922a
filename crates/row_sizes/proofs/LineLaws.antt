-- Laws of the lengths of lines: of one record, and of any line of a file. Assumes nothing.
use Prim.Native.Nat.{ℕ, ◌-◌, ◌≤◌}
use mathlib.Core.Path.{◌≡◌, refl, ap, sym, ◌∙◌}
use mathlib.Core.Bool.{Bool, true, false, cond}
use native.Mathlib.Omega.{arith}
use lib.Dec.{eqb, lit≤}
use lib.ListN.{length, drop, length-replicate, length-drop}
use lib.Seq.{length-take-le}
use Rattle.iff.specs.Bytes.{hash}
use Rattle.iff.specs.Columns.{on, form424, picture, picture_from, record_fields, row_record, group_record, block_record, record_of, fields_of}
use Rattle.iff.specs.declared.Edition.{Edition}
use Rattle.iff.specs.declared.Edition.TheVariants.{Iff424}
use Rattle.iff.specs.declared.Form.{Form}
use Rattle.iff.specs.declared.RowFile.{RowFile}
use Rattle.iff.specs.declared.GroupFile.{GroupFile}
use Rattle.iff.specs.declared.GroupFile.TheVariants.{Timezone, Footnote, Changes, Xfootnote, Xchanges}
use Rattle.iff.specs.declared.File.{File}
use Rattle.iff.specs.declared.File.TheVariants.{Delivery, Rows, Groups, Timetbls}
use Rattle.iff.specs.declared.Record.{Record}
use Rattle.iff.specs.declared.Record.TheVariants.{FirstRecord, ServiceHead, TrainNumber, Validity, Transport, Attribute, PlainStop, Interval, Passed, Platform}
use Rattle.records.specs.declared.Spans.{Spans}
use Rattle.records.specs.Layouts.{each, pictures, spans_of}
use Rattle.records.proofs.FieldLaws.{fixed_place, is_vector_lem}
use Rattle.records.proofs.VectorLaws.{vector_picture}

-- ONE RECORD
marks_length : length pictures ≡ 511
unfolding pictures each record_fields picture_from
marks_length = refl

module _ (form : Form) (r : Record) (s : Spans) (e : s ≡ spans_of r) where
  pub vector_length : s.1 ≡ 0 → form.days ≡ length (picture (record_fields form r))
  vector_length z = sym (rw (is_vector_lem form r s e z, vector_picture) (length-replicate form.days 109))

  module _ (z : s.1 ≡ 0 → ⊥) where
    pub in_turn_lem : s.0 ≤ s.1
    in_turn_lem = (fixed_place form r s e z).low

    pub fixed_length : s.1 - s.0 ≡ length (picture (record_fields form r))
    fixed_length =
        let p = fixed_place form r s e z in
        let m : length (drop s.0 pictures) ≡ length pictures - s.0 = length-drop s.0 pictures in
        sym (length-take-le (s.1 - s.0) (drop s.0 pictures) (omega (arith, p.top, marks_length))) ∙ ap length p.pictured

-- A LINE OF A FILE
abbrev pub line_length : Form → Record → ℕ
line_length form r = length (picture (record_fields form r))

module _ (form : Form) (m : ℕ) where
  -- one of two records
  either : (x k : ℕ) (a b : Record) → line_length form a ≤ m → line_length form b ≤ m → line_length form (on x k a b) ≤ m
  either x k a b p q = go (eqb x k)
    where
      go : (t : Bool) → line_length form (cond t a b) ≤ m
      go true = p
      go false = q

  pub in_group_lem : (f : GroupFile) → line_length form (group_record f hash) ≤ m → line_length form (group_record f 0) ≤ m
      → (x : ℕ) → line_length form (group_record f x) ≤ m
  in_group_lem Timezone p q x = either x hash _ _ p q
  in_group_lem Footnote p q x = either x hash _ _ p q
  in_group_lem Changes p q x = either x hash _ _ p q
  in_group_lem Xfootnote p q x = either x hash _ _ p q
  in_group_lem Xchanges p q x = either x hash _ _ p q

block_in : (days : ℕ) (e : Edition) (x : ℕ) → line_length (record { days = days; edition = e }) (block_record x) ≤ 57
unfolding block_record record_fields picture_from
block_in days Iff424 x =
    let form = form424 days in
    either form 57 x _ ServiceHead _ (lit≤ tt)
    (either form 57 x _ TrainNumber _ (lit≤ tt)
    (either form 57 x _ Validity _ (lit≤ tt)
    (either form 57 x _ Transport _ (lit≤ tt)
    (either form 57 x _ Attribute _ (lit≤ tt)
    (either form 57 x _ Interval _ (lit≤ tt)
    (either form 57 x _ Passed _ (lit≤ tt)
    (either form 57 x _ Platform PlainStop (lit≤ tt) (lit≤ tt))))))))

-- of each kind of file
module _ (form : Form) (f : File) (m : ℕ) where
  abbrev pub Longest : Type 0
  Longest = (x : ℕ) → length (picture (fields_of form f x)) ≤ m

  pub of_delivery : f ≡ Delivery → m ≡ line_length form FirstRecord → Longest
  unfolding fields_of record_of
  of_delivery e q x = rw (e, q) (omega arith)

  pub of_rows_lem : (g : RowFile) (r : Record) → f ≡ Rows g → r ≡ row_record g → m ≡ line_length form r → Longest
  unfolding fields_of record_of
  of_rows_lem g r e p q x = rw (e, q, p) (omega arith)

  pub of_groups_lem : (g : GroupFile) → f ≡ Groups g → ((x : ℕ) → line_length form (group_record g x) ≤ m) → Longest
  unfolding fields_of record_of
  of_groups_lem g e h x = rw e (h x)

pub of_blocks : (form : Form) (f : File) → f ≡ Timetbls → Longest form f 57
unfolding fields_of record_of
of_blocks form f e x = rw e (block_in form.days form.edition x)
