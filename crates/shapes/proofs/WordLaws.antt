-- Laws of the words of a row beside the fields of a record. Assumes nothing.
use Prim.Native.Nat.{ℕ, zero, suc, ◌+◌, ◌-◌, ◌≤◌, ◌<◌}
use mathlib.Core.Path.{◌≡◌, refl, ap, sym, ◌∙◌}
use mathlib.Core.List.{List, [], ◌∷◌}
use mathlib.Core.Bool.{Bool, true, false, ◌&&◌, cond, and-true, false≢true}
use native.Mathlib.Nat.{add-zero}
use native.Mathlib.Omega.{arith}
use native.Mathlib.Numerals.{add-one}
use lib.Dec.{eqb, leb}
use lib.ListN.{length, get_or, drop, length-drop}
use lib.Seq.{slice, slice_empty}
use borrow.Author.Tests.{eqb-true, leb-true}
use Rattle.std.specs.List.{list_all, range_with_len, zip}
use Rattle.text.proofs.PictureLaws.{and_left, and_right}
use Rattle.iff.specs.Lists.{all, kept}
use Rattle.iff.specs.Tables.{all_zero}
use Rattle.iff.specs.Columns.{Class, Letter, Number, StopNumber, NumberOrAny, Code, Marks, Text, Unread, Field, record_fields}
use Rattle.iff.specs.Values.{word_right, words_right, words_of, word_count, word_at, vector_right, vector_width}
use Rattle.iff.specs.declared.Form.{Form}
use Rattle.iff.specs.declared.Record.{Record}
use Rattle.iff_desk.specs.Sound.{shaped}
use Rattle.records.specs.declared.Spans.{Spans}
use Rattle.records.specs.declared.Entry.{Entry}
use Rattle.records.specs.Facts.{EntryOf}
use Rattle.records.specs.Layouts.{each, fields, no_field, field_at, leaves, leaving, spans_of, byte_of}
use Rattle.records.proofs.FieldLaws.{Placed, fixed_place, is_vector_lem, table_length, slice_step}
use Rattle.field_words.specs.Fits.{Digits, word_fits}

-- WHAT LEAVES NO WORD asks nothing of a row
silent : (k : Class) (width : ℕ) (r : List ℕ) → leaves k ≡ false → word_right k width r ≡ true
unfolding word_right
silent Letter width r e = refl
silent Number width r e = absurd (false≢true (sym e))
silent StopNumber width r e = refl
silent NumberOrAny width r e = absurd (false≢true (sym e))
silent Code width r e = absurd (false≢true (sym e))
silent Marks width r e = absurd (false≢true (sym e))
silent Text width r e = refl
silent Unread width r e = refl

wordless : (k : Class) → leaves k ≡ false → words_of k ≡ 0
wordless Letter e = refl
wordless Number e = absurd (false≢true (sym e))
wordless StopNumber e = absurd (false≢true (sym e))
wordless NumberOrAny e = absurd (false≢true (sym e))
wordless Code e = absurd (false≢true (sym e))
wordless Marks e = absurd (false≢true (sym e))
wordless Text e = refl
wordless Unread e = refl

right_leaving : (r : List ℕ) (fs : List Field) → words_right r (leaving fs) ≡ words_right r fs
unfolding words_right kept
right_leaving r [] = refl
right_leaving r (f ∷ fs) = go (leaves f.class) refl (right_leaving (drop (words_of f.class) r) fs)
  where
    go : (b : Bool) → leaves f.class ≡ b → words_right (drop (words_of f.class) r) (leaving fs) ≡ words_right (drop (words_of f.class) r) fs
        → words_right r (cond b (f ∷ leaving fs) (leaving fs))
        ≡ (word_right f.class f.width r && words_right (drop (words_of f.class) r) fs)
    go true e ih = ap (λ (t : Bool). word_right f.class f.width r && t) ih
    go false e ih =
        ap (λ (n : ℕ). words_right (drop n r) (leaving fs)) (sym (wordless f.class e))
        ∙ ih
        ∙ sym (ap (λ (t : Bool). t && words_right (drop (words_of f.class) r) fs) (silent f.class f.width r e))

-- BY CLASS: a field that leaves one word
by_class : (k : Class) (width : ℕ) (r : List ℕ) → words_of k ≡ 1 → word_right k width r ≡ word_fits (byte_of k) width (word_at r 0)
unfolding word_right word_fits
by_class Letter width r e = absurd (omega arith)
by_class Number width r e = refl
by_class StopNumber width r e = refl
by_class NumberOrAny width r e = refl
by_class Code width r e = refl
by_class Marks width r e = absurd (omega arith)
by_class Text width r e = absurd (omega arith)
by_class Unread width r e = absurd (omega arith)

-- THE FIELDS, BY NUMBER: each has some columns, eight at the most, and leaves one word
pub record OneWord (f : Field) : Type 0 where
  pub digits : Digits f.width
  pub one : words_of f.class ≡ 1

abbrev is_one_word : Field → Bool
is_one_word f = leb 1 f.width && (leb f.width 8 && eqb (words_of f.class) 1)

one_word_is : (f : Field) → is_one_word f ≡ true → OneWord f
one_word_is f e =
    let r = and_right (leb 1 f.width) _ e in
    record {
      digits = record { some = leb-true _ _ (and_left (leb 1 f.width) _ e); few = leb-true _ _ (and_left (leb f.width 8) _ r) };
      one = eqb-true _ _ (and_right (leb f.width 8) _ r);
    }

all_one_word : all is_one_word fields ≡ true
unfolding all fields each kept record_fields
all_one_word = refl

all_at : (p : Field → Bool) (fs : List Field) (d : Field) (j : ℕ) → all p fs ≡ true → j < length fs → p (get_or fs j d) ≡ true
unfolding all
all_at p [] d j e h = absurd (omega arith)
all_at p (f ∷ fs) d zero e h = and_left (p f) _ e
all_at p (f ∷ fs) d (suc j) e h = all_at p fs d j (and_right (p f) _ e) (omega arith)

pub one_word : (j : ℕ) → j < 51 → OneWord (field_at j)
one_word j h = one_word_is (field_at j) (all_at is_one_word fields no_field j all_one_word (rw table_length h))

-- the entry's class and width are the field's
module _ (j : ℕ) (h : j < 51) (e : Entry) (o : EntryOf j e) where
  pub entry_digits : Digits e.1
  entry_digits = rw o.wide (one_word j h).digits

  pub entry_fits : (w : ℕ) → word_fits e.2 e.1 w ≡ word_fits (byte_of (field_at j).class) (field_at j).width w
  entry_fits w = rw (o.classed, o.wide)

-- THE WORDS BESIDE THEIR FIELDS, one after the other
abbrev pub pair_fits : ℕ × ℕ → Bool
pair_fits p = word_fits (byte_of (field_at p.1).class) (field_at p.1).width p.0

right_cons : (r : List ℕ) (f : Field) (fs : List Field)
    → words_right r (f ∷ fs) ≡ (word_right f.class f.width r && words_right (drop (words_of f.class) r) fs)
unfolding words_right
right_cons r f fs = refl

pairs_fit : (n j : ℕ) (r : List ℕ) → j + n ≤ 51 → n ≤ length r → list_all pair_fits (zip r (range_with_len j n)) ≡ words_right r (slice j (j + n) fields)
unfolding words_right
pairs_fit zero j [] b h = rw (add-zero, slice_empty)
pairs_fit zero j (x ∷ xs) b h = rw (add-zero, slice_empty)
pairs_fit (suc n) j [] b h = absurd (omega arith)
pairs_fit (suc n) j (x ∷ xs) b h =
    let o = one_word j (omega arith) in
    let z : j + suc n ≡ j + 1 + n = omega arith in
    ap (λ (t : Bool). pair_fits (x, j) && t) (pairs_fit n (j + 1) xs (omega arith) (omega arith))
    ∙ sym
    (ap (words_right (x ∷ xs)) (slice_step j (j + suc n) (omega arith) b)
    ∙ right_cons (x ∷ xs) (field_at j) (slice (j + 1) (j + suc n) fields)
    ∙ rw (by_class (field_at j).class (field_at j).width (x ∷ xs) o.one, o.one, z))

pub words_fit_lem : (row : List ℕ) (first end : ℕ) → first ≤ end → end ≤ 51 → end - first < length row
    → list_all pair_fits (zip (drop 1 row) (range_with_len first (end - first))) ≡ words_right (drop 1 row) (slice first end fields)
words_fit_lem row first end t b h =
    let z : first + (end - first) ≡ end = omega arith in
    pairs_fit (end - first) first (drop 1 row) (omega arith) (omega (arith, length-drop 1 row)) ∙ rw z

-- A ROW OF A RECORD, whose part of the tables is s
module _ (form : Form) (r : Record) (s : Spans) (e : s ≡ spans_of r) (row : List ℕ) where
  module _ (z : s.1 ≡ 0) where
    pub vector_room : suc (word_count (record_fields form r)) ≤ length row → vector_width < length row
    unfolding record_fields
    vector_room h = omega (arith, ap word_count (is_vector_lem form r s e z))

    vector_shaped : shaped (record_fields form r) row ≡ (vector_right vector_width form.days (drop 1 row) && all_zero (drop 14 row))
    unfolding shaped record_fields words_right word_right
    vector_shaped =
        let n : suc form.days - 1 ≡ form.days = omega arith in
        ap (λ (fs : List Field). shaped fs row) (is_vector_lem form r s e z) ∙ rw (n, and-true)

    pub vector_unfit : vector_right vector_width form.days (drop 1 row) ≡ false → false ≡ shaped (record_fields form r) row
    vector_unfit q = sym (vector_shaped ∙ rw q)

    pub vector_fit : vector_right vector_width form.days (drop 1 row) ≡ true → all_zero (drop 14 row) ≡ shaped (record_fields form r) row
    vector_fit q = sym (vector_shaped ∙ rw q)

  module _ (z : s.1 ≡ 0 → ⊥) where
    place : Placed form r s
    place = fixed_place form r s e z

    pub words_room : suc (word_count (record_fields form r)) ≤ length row → (s.2 ≤ s.3) × (s.3 ≤ 51) × (s.3 - s.2 < length row)
    words_room h = (place.in_turn, place.in_table, omega (arith, place.counted))

    words_shaped : shaped (record_fields form r) row
        ≡ (words_right (drop 1 row) (slice s.2 s.3 fields) && all_zero (drop (s.3 - s.2 + 1) row))
    unfolding shaped
    words_shaped = rw (add-one, place.counted, place.listed, right_leaving)

    pub words_unfit : words_right (drop 1 row) (slice s.2 s.3 fields) ≡ false → false ≡ shaped (record_fields form r) row
    words_unfit q = sym (words_shaped ∙ rw q)

    pub words_fit : words_right (drop 1 row) (slice s.2 s.3 fields) ≡ true
        → all_zero (drop (s.3 - s.2 + 1) row) ≡ shaped (record_fields form r) row
    words_fit q = sym (words_shaped ∙ rw q)
