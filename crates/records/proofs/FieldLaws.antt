-- Laws of records and their fields: the code's tables are the definitions' columns, and fields that leave no word change nothing.
-- Assumes nothing.
use Prim.Native.Nat.{ℕ, zero, suc, ◌+◌, ◌-◌, ◌≤◌, ◌<◌}
use mathlib.Core.Path.{◌≡◌, refl, ap, sym, ◌∙◌}
use mathlib.Core.List.{List, [], ◌∷◌, ◌++◌}
use mathlib.Core.Bool.{Bool, true, false, ◌&&◌, cond, false≢true}
use native.Mathlib.Omega.{arith}
use native.Mathlib.Numerals.{add-one}
use lib.Dec.{leb}
use lib.ListN.{length, take, drop, get_or-eq_default}
use lib.Seq.{slice, slice-cons}
use borrow.Author.Tests.{eqb-true, leb-true, eq-eqb, ne_eqb}
use Rattle.text.proofs.PictureLaws.{and_left, and_right, same_length}
use Rattle.iff.specs.Lists.{all, kept}
use Rattle.iff.specs.Columns.{Class, Letter, Number, StopNumber, NumberOrAny, Code, Marks, Text, Unread, Field, picture, picture_from, form424, record_fields, column, fits, figures, columns}
use Rattle.iff.specs.Values.{words, field_words, field_right, readable, words_of, word_count}
use Rattle.iff.specs.declared.Edition.{Edition}
use Rattle.iff.specs.declared.Edition.TheVariants.{Iff424}
use Rattle.iff.specs.declared.Form.{Form}
use Rattle.iff.specs.declared.Record.{Record}
use Rattle.iff.specs.declared.Record.TheVariants.{FirstRecord, CompanyRow, CountryRow, ModeRow, ZoneHead, ZonePeriod, StationRow, FootnoteHead, FootnoteVector, ServiceHead, TrainNumber, Validity, Transport, Attribute, PlainStop, Interval, Passed, Platform, ChangeHead, ChangePair, ChangeException}
use Rattle.records.specs.declared.Spans.{Spans}
use Rattle.records.specs.Layouts.{each, pictures, fields, no_field, field_at, leaves, leaving, spans_of, is_vector, byte_of, word_by, right_by, right_in, readable_in}
use Rattle.records.specs.Facts.{EntryOf, Inside, is_inside, Entries, SpansFit}

-- WHAT LEAVES NO WORD
silent : (n : ℕ) (k : Class) (s : List ℕ) → leaves k ≡ false → field_words n k s ≡ []
unfolding field_words
silent n Letter s e = refl
silent n Number s e = absurd (false≢true (sym e))
silent n StopNumber s e = absurd (false≢true (sym e))
silent n NumberOrAny s e = absurd (false≢true (sym e))
silent n Code s e = absurd (false≢true (sym e))
silent n Marks s e = absurd (false≢true (sym e))
silent n Text s e = refl
silent n Unread s e = refl

-- is right
always : (k : Class) (s : List ℕ) → leaves k ≡ false → field_right k s ≡ true
unfolding field_right
always Letter s e = refl
always Number s e = refl
always StopNumber s e = refl
always NumberOrAny s e = absurd (false≢true (sym e))
always Code s e = absurd (false≢true (sym e))
always Marks s e = refl
always Text s e = refl
always Unread s e = refl

pub words_leaving : (n : ℕ) (body : List ℕ) (fs : List Field) → words n body (leaving fs) ≡ words n body fs
unfolding words kept
words_leaving n body [] = refl
words_leaving n body (f ∷ fs) = go (leaves f.class) refl (words_leaving n body fs)
  where
    go : (b : Bool) → leaves f.class ≡ b → words n body (leaving fs) ≡ words n body fs
        → words n body (cond b (f ∷ leaving fs) (leaving fs)) ≡ field_words n f.class (columns body f) ++ words n body fs
    go true e ih = ap (λ (l : List ℕ). field_words n f.class (columns body f) ++ l) ih
    go false e ih = ih ∙ sym (ap (λ (l : List ℕ). l ++ words n body fs) (silent n f.class (columns body f) e))

pub right_leaving : (body : List ℕ) (fs : List Field) → right_in body (leaving fs) ≡ right_in body fs
unfolding right_in all kept
right_leaving body [] = refl
right_leaving body (f ∷ fs) = go (leaves f.class) refl (right_leaving body fs)
  where
    go : (b : Bool) → leaves f.class ≡ b → right_in body (leaving fs) ≡ right_in body fs
        → right_in body (cond b (f ∷ leaving fs) (leaving fs)) ≡ (field_right f.class (columns body f) && right_in body fs)
    go true e ih = ap (λ (t : Bool). field_right f.class (columns body f) && t) ih
    go false e ih = ih ∙ sym (ap (λ (t : Bool). t && right_in body fs) (always f.class (columns body f) e))

-- BY CLASS: a field that leaves one word
pub word_by_lem : (n : ℕ) (k : Class) (s : List ℕ) → words_of k ≡ 1 → field_words n k s ≡ word_by (byte_of k) n s ∷ []
unfolding field_words word_by
word_by_lem n Letter s e = absurd (omega arith)
word_by_lem n Number s e = refl
word_by_lem n StopNumber s e = refl
word_by_lem n NumberOrAny s e = refl
word_by_lem n Code s e = refl
word_by_lem n Marks s e = absurd (omega arith)
word_by_lem n Text s e = absurd (omega arith)
word_by_lem n Unread s e = absurd (omega arith)

pub right_by_lem : (k : Class) (s : List ℕ) → words_of k ≡ 1 → field_right k s ≡ right_by (byte_of k) s
unfolding field_right right_by
right_by_lem Letter s e = absurd (omega arith)
right_by_lem Number s e = refl
right_by_lem StopNumber s e = refl
right_by_lem NumberOrAny s e = refl
right_by_lem Code s e = refl
right_by_lem Marks s e = absurd (omega arith)
right_by_lem Text s e = absurd (omega arith)
right_by_lem Unread s e = absurd (omega arith)

-- THE FIELDS, BY NUMBER
pub table_length : length fields ≡ 51
unfolding fields each kept record_fields
table_length = refl

-- the entry that says what field j is; columns count from 1
pub entry_is : (j : ℕ) → leb 1 (field_at j).from ≡ true
    → EntryOf j (record { 0 = (field_at j).from; 1 = (field_at j).width; 2 = byte_of (field_at j).class })
entry_is j l = record { begins = refl; low = leb-true 1 _ l; wide = refl; classed = refl }

-- a number that is none of those below n
abbrev pub NoneOf : ℕ → ℕ → Type 0
NoneOf zero j = Unit {0}
NoneOf (suc n) j = NoneOf n j × (j ≡ n → ⊥)

pub past : (n j : ℕ) → NoneOf n j → n ≤ j
past zero j h = omega arith
past (suc n) j h =
    let p = past n j h.0 in
    let q = h.1 in
    omega arith

-- is beyond the last field, where an empty one stands
pub entry_beyond : (j : ℕ) → NoneOf 51 j → EntryOf j (record { 0 = 1; 1 = 0; 2 = 99 })
entry_beyond j h =
    let e : field_at j ≡ no_field = get_or-eq_default fields no_field (rw table_length (past 51 j h)) in
    rw e at (entry_is j (rw e))

-- ENTRIES INSIDE A LINE, one after the other
pub is_inside_lem : (room : ℕ) (f : Field) → is_inside room f ≡ true → Inside room f
is_inside_lem room f e =
    let r = and_right (leb (f.from - 1 + f.width) room) _ e in
    record {
      within = leb-true _ _ (and_left (leb (f.from - 1 + f.width) room) _ e);
      small = leb-true _ _ (and_left (leb f.width 8) _ r);
      one = eqb-true _ _ (and_right (leb f.width 8) _ r);
    }

pub slice_step : (j end : ℕ) → j < end → end ≤ 51 → slice j end fields ≡ field_at j ∷ slice (j + 1) end fields
slice_step j end h k = rw add-one (slice-cons j end fields _ h (rw table_length k))

module _ (p : Field → Bool) (j end : ℕ) (h : j < end) (k : end ≤ 51) where
  unfold_all : all p (slice j end fields) ≡ (p (field_at j) && all p (slice (j + 1) end fields))
  unfolding all
  unfold_all = ap (all p) (slice_step j end h k)

  pub all_here : all p (slice j end fields) ≡ true → p (field_at j) ≡ true
  all_here e = and_left (p (field_at j)) _ (sym unfold_all ∙ e)

  pub all_next : all p (slice j end fields) ≡ true → all p (slice (j + 1) end fields) ≡ true
  all_next e = and_right (p (field_at j)) _ (sym unfold_all ∙ e)

  pub all_step : all p (slice j end fields) ≡ (p (field_at j) && all p (slice (j + 1) end fields))
  all_step = unfold_all

-- WHERE EACH RECORD STANDS
pub record Placed (form : Form) (r : Record) (s : Spans) : Type 0 where
  pub low : s.0 ≤ s.1
  pub top : s.1 ≤ 511
  pub in_turn : s.2 ≤ s.3
  pub in_table : s.3 ≤ 51
  pub pictured : take (s.1 - s.0) (drop s.0 pictures) ≡ picture (record_fields form r)
  pub listed : slice s.2 s.3 fields ≡ leaving (record_fields form r)
  pub counted : s.3 - s.2 ≡ word_count (record_fields form r)
  pub all_inside : all (is_inside (length (picture (record_fields form r)))) (slice s.2 s.3 fields) ≡ true

unfoldable ordered : Spans → Bool
ordered s = leb s.0 s.1 && (leb s.1 511 && (leb s.2 s.3 && leb s.3 51))

place : (form : Form) (r : Record) (s : Spans) → ordered s ≡ true
    → take (s.1 - s.0) (drop s.0 pictures) ≡ picture (record_fields form r)
    → slice s.2 s.3 fields ≡ leaving (record_fields form r)
    → s.3 - s.2 ≡ word_count (record_fields form r)
    → all (is_inside (length (picture (record_fields form r)))) (slice s.2 s.3 fields) ≡ true
    → Placed form r s
unfolding ordered
place form r s o p l c t =
    let a = and_right (leb s.0 s.1) _ o in
    let b = and_right (leb s.1 511) _ a in
    record {
      low = leb-true _ _ (and_left (leb s.0 s.1) _ o);
      top = leb-true _ _ (and_left (leb s.1 511) _ a);
      in_turn = leb-true _ _ (and_left (leb s.2 s.3) _ b);
      in_table = leb-true _ _ (and_right (leb s.2 s.3) _ b);
      pictured = p;
      listed = l;
      counted = c;
      all_inside = t;
    }

-- each record in an edition
placed_in : (days : ℕ) (e : Edition) (r : Record) → is_vector r ≡ false → Placed (record { days = days; edition = e }) r (spans_of r)
unfolding ordered pictures fields each kept record_fields picture_from all
placed_in days Iff424 FirstRecord h = place (form424 days) FirstRecord _ refl refl refl refl refl
placed_in days Iff424 CompanyRow h = place (form424 days) CompanyRow _ refl refl refl refl refl
placed_in days Iff424 CountryRow h = place (form424 days) CountryRow _ refl refl refl refl refl
placed_in days Iff424 ModeRow h = place (form424 days) ModeRow _ refl refl refl refl refl
placed_in days Iff424 ZoneHead h = place (form424 days) ZoneHead _ refl refl refl refl refl
placed_in days Iff424 ZonePeriod h = place (form424 days) ZonePeriod _ refl refl refl refl refl
placed_in days Iff424 StationRow h = place (form424 days) StationRow _ refl refl refl refl refl
placed_in days Iff424 FootnoteHead h = place (form424 days) FootnoteHead _ refl refl refl refl refl
placed_in days Iff424 FootnoteVector h = absurd (false≢true (sym h))
placed_in days Iff424 ServiceHead h = place (form424 days) ServiceHead _ refl refl refl refl refl
placed_in days Iff424 TrainNumber h = place (form424 days) TrainNumber _ refl refl refl refl refl
placed_in days Iff424 Validity h = place (form424 days) Validity _ refl refl refl refl refl
placed_in days Iff424 Transport h = place (form424 days) Transport _ refl refl refl refl refl
placed_in days Iff424 Attribute h = place (form424 days) Attribute _ refl refl refl refl refl
placed_in days Iff424 PlainStop h = place (form424 days) PlainStop _ refl refl refl refl refl
placed_in days Iff424 Interval h = place (form424 days) Interval _ refl refl refl refl refl
placed_in days Iff424 Passed h = place (form424 days) Passed _ refl refl refl refl refl
placed_in days Iff424 Platform h = place (form424 days) Platform _ refl refl refl refl refl
placed_in days Iff424 ChangeHead h = place (form424 days) ChangeHead _ refl refl refl refl refl
placed_in days Iff424 ChangePair h = place (form424 days) ChangePair _ refl refl refl refl refl
placed_in days Iff424 ChangeException h = place (form424 days) ChangeException _ refl refl refl refl refl

pub placed : (form : Form) (r : Record) → is_vector r ≡ false → Placed form r (spans_of r)
placed form r h = placed_in form.days form.edition r h

-- the vector
pub vector_fields_lem : (form : Form) (r : Record) → is_vector r ≡ true → record_fields form r ≡ record_fields form FootnoteVector
vector_fields_lem form FirstRecord h = absurd (false≢true h)
vector_fields_lem form CompanyRow h = absurd (false≢true h)
vector_fields_lem form CountryRow h = absurd (false≢true h)
vector_fields_lem form ModeRow h = absurd (false≢true h)
vector_fields_lem form ZoneHead h = absurd (false≢true h)
vector_fields_lem form ZonePeriod h = absurd (false≢true h)
vector_fields_lem form StationRow h = absurd (false≢true h)
vector_fields_lem form FootnoteHead h = absurd (false≢true h)
vector_fields_lem form FootnoteVector h = refl
vector_fields_lem form ServiceHead h = absurd (false≢true h)
vector_fields_lem form TrainNumber h = absurd (false≢true h)
vector_fields_lem form Validity h = absurd (false≢true h)
vector_fields_lem form Transport h = absurd (false≢true h)
vector_fields_lem form Attribute h = absurd (false≢true h)
vector_fields_lem form PlainStop h = absurd (false≢true h)
vector_fields_lem form Interval h = absurd (false≢true h)
vector_fields_lem form Passed h = absurd (false≢true h)
vector_fields_lem form Platform h = absurd (false≢true h)
vector_fields_lem form ChangeHead h = absurd (false≢true h)
vector_fields_lem form ChangePair h = absurd (false≢true h)
vector_fields_lem form ChangeException h = absurd (false≢true h)

-- a record's part of the tables, as the code has it: empty, or placed
module _ (form : Form) (r : Record) (s : Spans) (e : s ≡ spans_of r) where
  pub fixed_place : (s.1 ≡ 0 → ⊥) → Placed form r s
  fixed_place h = rw e (placed form r (ne_eqb (spans_of r).1 0 (λ z. h (ap (λ (t : Spans). t.1) e ∙ z))))

  pub is_vector_lem : s.1 ≡ 0 → record_fields form r ≡ record_fields form FootnoteVector
  is_vector_lem h = vector_fields_lem form r (eq-eqb (spans_of r).1 0 (sym (ap (λ (t : Spans). t.1) e) ∙ h))

-- a line that fits its record has its part of the tables
module _ (form : Form) (r : Record) (s : Spans) (p : Placed form r s) (body : List ℕ) where
  pub entries_in : fits body (picture (record_fields form r)) ≡ true → Entries s.2 s.3 body
  entries_in f =
      let n : length body ≡ length (picture (record_fields form r)) = same_length column _ _ f in
      record { in_turn = p.in_turn; in_table = p.in_table; all_inside = rw n p.all_inside }

  pub spans_fit : SpansFit s body
  spans_fit = record { low = p.low; top = p.top; fitted = λ f. entries_in (sym (ap (fits body) p.pictured) ∙ f) }

  pub readable_in_lem : readable_in s body ≡ readable body (record_fields form r)
  unfolding readable_in readable right_in
  readable_in_lem =
      rw (p.pictured, p.listed)
      (ap (λ (t : Bool). figures body (picture (record_fields form r)) && t) (right_leaving body (record_fields form r)))

  pub words_in : (n : ℕ) → words n body (slice s.2 s.3 fields) ≡ words n body (record_fields form r)
  words_in n = ap (words n body) p.listed ∙ words_leaving n body (record_fields form r)
