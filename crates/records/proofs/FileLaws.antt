-- Laws of files, for callers: the width of their rows, the tag of a row, and rows that do not depend on the number of stops. Assumes nothing.
use Prim.Native.Nat.{ℕ, suc, ◌≤◌}
use mathlib.Core.Path.{◌≡◌, refl, ap, sym, ◌∙◌}
use mathlib.Core.List.{List, [], ◌∷◌, ◌++◌}
use mathlib.Core.Bool.{Bool, true, false, not, cond, false≢true}
use native.Mathlib.Omega.{arith}
use lib.Dec.{eqb, lit≤}
use lib.ListN.{length}
use borrow.Author.Tests.{ne_eqb}
use Rattle.text.proofs.PictureLaws.{and_left, and_right}
use Rattle.iff.specs.Bytes.{hash, at}
use Rattle.iff.specs.Lists.{any, all}
use Rattle.iff.specs.Lines.{Line, letter}
use Rattle.iff.specs.Columns.{Class, Letter, Number, StopNumber, NumberOrAny, Code, Marks, Text, Unread, Field, on, columns}
use Rattle.iff.specs.Columns.{record_fields, row_record, group_record, block_record, record_of, fields_of, picture, fits, laid}
use Rattle.iff.specs.Values.{words, field_words, word_count, readable}
use Rattle.iff.specs.Tables.{tag, letterless, row_width, padded}
use Rattle.iff.specs.declared.Form.{Form}
use Rattle.iff.specs.declared.RowFile.{RowFile}
use Rattle.iff.specs.declared.RowFile.TheVariants.{Company, Country, Trnsmode, Stations}
use Rattle.iff.specs.declared.GroupFile.{GroupFile}
use Rattle.iff.specs.declared.GroupFile.TheVariants.{Timezone, Footnote, Changes, Xfootnote, Xchanges}
use Rattle.iff.specs.declared.File.{File}
use Rattle.iff.specs.declared.File.TheVariants.{Delivery, Rows, Groups, Timetbls}
use Rattle.iff.specs.declared.Record.{Record}
use Rattle.iff.specs.declared.Record.TheVariants.{FirstRecord, CompanyRow, CountryRow, ModeRow, ZoneHead, ZonePeriod, StationRow, FootnoteHead, FootnoteVector, ServiceHead, TrainNumber, Validity, Transport, Attribute, PlainStop, Interval, Passed, Platform, ChangeHead, ChangePair, ChangeException}
use Rattle.iff_rules.specs.Order.{known_in_group, known_in_block, group_tag, tag_of, vector_tag}
use Rattle.iff_rules.specs.Rows.{row_of}
use Rattle.tables.proofs.Rows.{Used}
use Rattle.records.specs.Layouts.{legible}
use Rattle.records.specs.Facts.{Legible}
use Rattle.records.proofs.RowLaws.{words_length, padded_length}

-- THE FIELDS OF A LINE, by kind of file
pub row_fields : (form : Form) (f : RowFile) (x : ℕ) → fields_of form (Rows f) x ≡ record_fields form (row_record f)
unfolding fields_of record_of
row_fields form f x = refl

pub group_fields : (form : Form) (f : GroupFile) (x : ℕ) → fields_of form (Groups f) x ≡ record_fields form (group_record f x)
unfolding fields_of record_of
group_fields form f x = refl

pub block_fields : (form : Form) (x : ℕ) → fields_of form Timetbls x ≡ record_fields form (block_record x)
unfolding fields_of record_of
block_fields form x = refl

-- ROOM: a row has a word for the tag and for each field that leaves one
module _ (form : Form) (m : ℕ) where
  abbrev Small : Record → Type 0
  Small r = suc (word_count (record_fields form r)) ≤ m

  either : (x k : ℕ) (a b : Record) → Small a → Small b → Small (on x k a b)
  either x k a b p q = go (eqb x k)
    where
      go : (t : Bool) → Small (cond t a b)
      go true = p
      go false = q

pub row_room : (form : Form) (f : RowFile) → suc (word_count (record_fields form (row_record f))) ≤ row_width (Rows f)
unfolding record_fields
row_room form Company = lit≤ tt
row_room form Country = lit≤ tt
row_room form Trnsmode = lit≤ tt
row_room form Stations = lit≤ tt

pub group_room : (form : Form) (f : GroupFile) (x : ℕ) → suc (word_count (record_fields form (group_record f x))) ≤ row_width (Groups f)
unfolding record_fields
group_room form Timezone x = either form 6 x _ ZoneHead ZonePeriod (lit≤ tt) (lit≤ tt)
group_room form Footnote x = either form 14 x _ FootnoteHead FootnoteVector (lit≤ tt) (lit≤ tt)
group_room form Changes x = either form 6 x _ ChangeHead ChangePair (lit≤ tt) (lit≤ tt)
group_room form Xfootnote x = either form 14 x _ FootnoteHead FootnoteVector (lit≤ tt) (lit≤ tt)
group_room form Xchanges x = either form 7 x _ ChangeHead ChangeException (lit≤ tt) (lit≤ tt)

-- in a block there is one word more, for the line's number
pub block_room : (form : Form) (x : ℕ) → suc (word_count (record_fields form (block_record x))) ≤ 5
unfolding block_record record_fields
block_room form x =
    either form 5 x _ ServiceHead _ (lit≤ tt)
    (either form 5 x _ TrainNumber _ (lit≤ tt)
    (either form 5 x _ Validity _ (lit≤ tt)
    (either form 5 x _ Transport _ (lit≤ tt)
    (either form 5 x _ Attribute _ (lit≤ tt)
    (either form 5 x _ Interval _ (lit≤ tt)
    (either form 5 x _ Passed _ (lit≤ tt)
    (either form 5 x _ Platform PlainStop (lit≤ tt) (lit≤ tt))))))))

-- of any file
room_for : (form : Form) (f : File) (x : ℕ) → suc (word_count (fields_of form f x)) ≤ row_width f
unfolding fields_of record_of record_fields
room_for form Delivery x = lit≤ tt
room_for form (Rows f) x = row_room form f
room_for form (Groups f) x = group_room form f x
room_for form Timetbls x = omega (arith, block_room form x)

-- THE ROW OF A LINE
pub row_length : (form : Form) (f : File) (l : Line) → length (row_of form f l) ≡ row_width f
unfolding row_of
row_length form f l =
    padded_length (row_width f) _ (rw (words_length 0 l.body (fields_of form f (letter l))) (room_for form f (letter l)))

pub row_tag : (form : Form) (f : File) (l : Line) → tag (row_of form f l) ≡ tag_of f (letter l)
unfolding row_of padded
row_tag form f l = refl

-- the row that `put_words` leaves in a row of the file's width
pub row_put : (form : Form) (f : RowFile) (l : Line)
    → padded (row_width (Rows f)) (letterless ∷ words 0 l.body (record_fields form (row_record f))) ≡ row_of form (Rows f) l
unfolding row_of fields_of record_of
row_put form f l = refl

pub group_put : (form : Form) (f : GroupFile) (l : Line)
    → padded (row_width (Groups f)) (group_tag f (letter l) ∷ words 0 l.body (record_fields form (group_record f (letter l))))
    ≡ row_of form (Groups f) l
unfolding row_of fields_of record_of
group_put form f l = refl

pub block_put : (form : Form) (l : Line)
    → padded (row_width Timetbls) (letter l ∷ words 0 l.body (record_fields form (block_record (letter l)))) ≡ row_of form Timetbls l
unfolding row_of fields_of record_of
block_put form l = refl

-- A TAG IS NEVER 0: not that of a vector's file
vector_used : (x : ℕ) → eqb (vector_tag x) 0 ≡ false
vector_used x = go (eqb x hash) (eqb x at)
  where
    go : (a b : Bool) → eqb (cond a hash (cond b at letterless)) 0 ≡ false
    go true b = refl
    go false true = refl
    go false false = refl

-- nor a letter that is known, since none knows 0
letter_used : (known : ℕ → Bool) (x : ℕ) → known 0 ≡ false → known x ≡ true → eqb x 0 ≡ false
letter_used known x n k = ne_eqb x 0 (λ z. false≢true (sym n ∙ ap known (sym z) ∙ k))

pub known_used : (f : GroupFile) (x : ℕ) → known_in_group f x ≡ true → eqb (group_tag f x) 0 ≡ false
unfolding any
known_used Timezone x k = letter_used (known_in_group Timezone) x refl k
known_used Footnote x k = vector_used x
known_used Changes x k = letter_used (known_in_group Changes) x refl k
known_used Xfootnote x k = vector_used x
known_used Xchanges x k = letter_used (known_in_group Xchanges) x refl k

pub block_known_used : (x : ℕ) → known_in_block x ≡ true → eqb x 0 ≡ false
unfolding any
block_known_used x k = letter_used known_in_block x refl k

-- so a line that has passed leaves a row that is in use
pub row_used : (form : Form) (f : File) (l : Line) → eqb (tag_of f (letter l)) 0 ≡ false → Used (row_width f) (row_of form f l)
row_used form f l u = (row_length form f l, rw row_tag u)

-- LEGIBLE LINES OF A BLOCK
pub legible_line : (form : Form) (l : Line) → laid l (fields_of form Timetbls (letter l)) ≡ true
    → readable l.body (fields_of form Timetbls (letter l)) ≡ true
    → legible form l ≡ true
unfolding legible
legible_line form l a b = rw (and_right l.ended _ a, b)

-- so a row of five words has room for one
pub can_be_put : (form : Form) (l : Line) → legible form l ≡ true → (room : ℕ) → 5 ≤ room → Legible form (block_record (letter l)) l.body room
unfolding legible fields_of record_of
can_be_put form l e room h =
    let fs = record_fields form (block_record (letter l)) in
    record {
      fitting = and_left (fits l.body (picture fs)) (readable l.body fs) e;
      reading = and_right (fits l.body (picture fs)) (readable l.body fs) e;
      roomy = omega (arith, block_room form (letter l));
    }

-- WORDS THAT DO NOT DEPEND ON THE NUMBER OF STOPS
abbrev is_stop_number : Class → Bool
is_stop_number Letter = false
is_stop_number Number = false
is_stop_number StopNumber = true
is_stop_number NumberOrAny = false
is_stop_number Code = false
is_stop_number Marks = false
is_stop_number Text = false
is_stop_number Unread = false

settled_field : (n m : ℕ) (k : Class) (s : List ℕ) → not (is_stop_number k) ≡ true → field_words n k s ≡ field_words m k s
unfolding field_words
settled_field n m Letter s e = refl
settled_field n m Number s e = refl
settled_field n m StopNumber s e = absurd (false≢true e)
settled_field n m NumberOrAny s e = refl
settled_field n m Code s e = refl
settled_field n m Marks s e = refl
settled_field n m Text s e = refl
settled_field n m Unread s e = refl

pub settled_words : (n m : ℕ) (body : List ℕ) (fs : List Field) → all (λ f. not (is_stop_number f.class)) fs ≡ true
    → words n body fs ≡ words m body fs
unfolding words all
settled_words n m body [] e = refl
settled_words n m body (f ∷ fs) e =
    ap (λ (l : List ℕ). l ++ words n body fs) (settled_field n m f.class (columns body f) (and_left (not (is_stop_number f.class)) _ e))
    ∙ ap (λ (l : List ℕ). field_words m f.class (columns body f) ++ l) (settled_words n m body fs (and_right (not (is_stop_number f.class)) _ e))

-- the records whose fields are no stop numbers: all but `%`, `-`, `&` and `*` of a block
abbrev pub is_settled : Record → Bool
is_settled FirstRecord = true
is_settled CompanyRow = true
is_settled CountryRow = true
is_settled ModeRow = true
is_settled ZoneHead = true
is_settled ZonePeriod = true
is_settled StationRow = true
is_settled FootnoteHead = true
is_settled FootnoteVector = true
is_settled ServiceHead = true
is_settled TrainNumber = false
is_settled Validity = false
is_settled Transport = false
is_settled Attribute = false
is_settled PlainStop = true
is_settled Interval = true
is_settled Passed = true
is_settled Platform = true
is_settled ChangeHead = true
is_settled ChangePair = true
is_settled ChangeException = true

pub words_settled : (n m : ℕ) (form : Form) (body : List ℕ) (r : Record) → is_settled r ≡ true
    → words n body (record_fields form r) ≡ words m body (record_fields form r)
unfolding record_fields all
words_settled n m form body FirstRecord e = settled_words n m body (record_fields form FirstRecord) refl
words_settled n m form body CompanyRow e = settled_words n m body (record_fields form CompanyRow) refl
words_settled n m form body CountryRow e = settled_words n m body (record_fields form CountryRow) refl
words_settled n m form body ModeRow e = settled_words n m body (record_fields form ModeRow) refl
words_settled n m form body ZoneHead e = settled_words n m body (record_fields form ZoneHead) refl
words_settled n m form body ZonePeriod e = settled_words n m body (record_fields form ZonePeriod) refl
words_settled n m form body StationRow e = settled_words n m body (record_fields form StationRow) refl
words_settled n m form body FootnoteHead e = settled_words n m body (record_fields form FootnoteHead) refl
words_settled n m form body FootnoteVector e = settled_words n m body (record_fields form FootnoteVector) refl
words_settled n m form body ServiceHead e = settled_words n m body (record_fields form ServiceHead) refl
words_settled n m form body TrainNumber e = absurd (false≢true e)
words_settled n m form body Validity e = absurd (false≢true e)
words_settled n m form body Transport e = absurd (false≢true e)
words_settled n m form body Attribute e = absurd (false≢true e)
words_settled n m form body PlainStop e = settled_words n m body (record_fields form PlainStop) refl
words_settled n m form body Interval e = settled_words n m body (record_fields form Interval) refl
words_settled n m form body Passed e = settled_words n m body (record_fields form Passed) refl
words_settled n m form body Platform e = settled_words n m body (record_fields form Platform) refl
words_settled n m form body ChangeHead e = settled_words n m body (record_fields form ChangeHead) refl
words_settled n m form body ChangePair e = settled_words n m body (record_fields form ChangePair) refl
words_settled n m form body ChangeException e = settled_words n m body (record_fields form ChangeException) refl
