-- The columns of all records one after the other, as the code's two tables hold them, and where each record's stand.
use Rattle.std.specs.Prelude.{ℕ, ◌-◌, List, [], ◌∷◌, ◌++◌, Bool, true, false, ◌&&◌, ◌||◌, not, eqb, get_or, take, drop}
use Rattle.std.proofs.Math.Seq.{slice}
use Rattle.iff.specs.Lists.{all, kept}
use Rattle.iff.specs.Bytes.{digit}
use Rattle.iff.specs.Lines.{Line, letter}
use Rattle.iff.specs.Columns.{Class, Letter, Number, StopNumber, NumberOrAny, Code, Marks, Text, Unread, Field, on, picture, form424, record_fields, fields_of, laid, fits, figures, columns}
use Rattle.iff.specs.Values.{number_of, code_of, stop_of, company_or_any, all_blank, is_wildcard, field_right, readable}
use Rattle.iff.specs.Refusals.{or_test, unless, Test}
use Rattle.iff.specs.declared.Form.{Form}
use Rattle.iff.specs.declared.File.TheVariants.{Timetbls}
use Rattle.iff.specs.declared.Reason.TheVariants.{Layout, Value}
use Rattle.iff.specs.declared.Record.{Record}
use Rattle.iff.specs.declared.Record.TheVariants.{FirstRecord, CompanyRow, CountryRow, ModeRow, ZoneHead, ZonePeriod, StationRow, FootnoteHead, FootnoteVector, ServiceHead, TrainNumber, Validity, Transport, Attribute, PlainStop, Interval, Passed, Platform, ChangeHead, ChangePair, ChangeException}
use Rattle.records.specs.declared.Spans.{Spans}

abbrev pub line_of : List ℕ → Bool → Line
line_of body ended = record { body = body; ended = ended }

-- the records of fixed columns, in the order of the paper's table: all but the vector, which is as wide as there are days
abbrev pub fixed : List Record
fixed =
    FirstRecord ∷ CompanyRow ∷ CountryRow ∷ ModeRow ∷ ZoneHead ∷ ZonePeriod ∷ StationRow ∷ FootnoteHead ∷ ServiceHead ∷ TrainNumber
    ∷ Validity ∷ Transport ∷ Attribute ∷ PlainStop ∷ Interval ∷ Passed ∷ Platform ∷ ChangeHead ∷ ChangePair ∷ ChangeException ∷ []

-- a field that a row keeps a word of: neither the letter nor free text nor a column that is not read. Only such fields can be wrong, but for
-- their columns.
abbrev pub leaves : Class → Bool
leaves Letter = false
leaves Number = true
leaves StopNumber = true
leaves NumberOrAny = true
leaves Code = true
leaves Marks = true
leaves Text = false
leaves Unread = false

abbrev pub leaving : List Field → List Field
leaving fs = kept (λ f. leaves f.class) fs

module _ {A : Type 0} where
  -- what each record has, one record after the other
  unfoldable pub each : (Record → List A) → List Record → List A
  each f [] = []
  each f (r ∷ rs) = f r ++ each f rs

-- the marks of all columns
unfoldable pub pictures : List ℕ
pictures = each (λ r. picture (record_fields (form424 0) r)) fixed

-- all fields that leave a word
unfoldable pub fields : List Field
fields = each (λ r. leaving (record_fields (form424 0) r)) fixed

-- beyond the last, an empty one
abbrev pub no_field : Field
no_field = record { from = 1; width = 0; class = Code }

abbrev pub field_at : ℕ → Field
field_at j = get_or fields j no_field

-- where a record's columns stand, and its fields; the vector has none there
abbrev pub spans_of : Record → Spans
spans_of FirstRecord = record { 0 = 0; 1 = 58; 2 = 0; 3 = 4 }
spans_of CompanyRow = record { 0 = 58; 1 = 108; 2 = 4; 3 = 6 }
spans_of CountryRow = record { 0 = 108; 1 = 145; 2 = 6; 3 = 8 }
spans_of ModeRow = record { 0 = 145; 1 = 180; 2 = 8; 3 = 9 }
spans_of ZoneHead = record { 0 = 180; 1 = 185; 2 = 9; 3 = 10 }
spans_of ZonePeriod = record { 0 = 185; 1 = 206; 2 = 10; 3 = 13 }
spans_of StationRow = record { 0 = 206; 1 = 279; 2 = 13; 3 = 18 }
spans_of FootnoteHead = record { 0 = 279; 1 = 285; 2 = 18; 3 = 19 }
spans_of FootnoteVector = record { 0 = 0; 1 = 0; 2 = 0; 3 = 0 }
spans_of ServiceHead = record { 0 = 285; 1 = 294; 2 = 19; 3 = 20 }
spans_of TrainNumber = record { 0 = 294; 1 = 351; 2 = 20; 3 = 24 }
spans_of Validity = record { 0 = 351; 1 = 365; 2 = 24; 3 = 27 }
spans_of Transport = record { 0 = 365; 1 = 378; 2 = 27; 3 = 30 }
spans_of Attribute = record { 0 = 378; 1 = 397; 2 = 30; 3 = 34 }
spans_of PlainStop = record { 0 = 397; 1 = 410; 2 = 34; 3 = 36 }
spans_of Interval = record { 0 = 410; 1 = 428; 2 = 36; 3 = 39 }
spans_of Passed = record { 0 = 428; 1 = 436; 2 = 39; 3 = 40 }
spans_of Platform = record { 0 = 436; 1 = 454; 2 = 40; 3 = 41 }
spans_of ChangeHead = record { 0 = 454; 1 = 462; 2 = 41; 3 = 42 }
spans_of ChangePair = record { 0 = 462; 1 = 483; 2 = 42; 3 = 45 }
spans_of ChangeException = record { 0 = 483; 1 = 511; 2 = 45; 3 = 51 }

-- the vector's part of the tables is empty
abbrev pub is_vector : Record → Bool
is_vector r = eqb (spans_of r).1 0

-- a field's class as the table has it: 'n', 's', 'a', 'c'
abbrev pub byte_of : Class → ℕ
byte_of Letter = 0
byte_of Number = 110
byte_of StopNumber = 115
byte_of NumberOrAny = 97
byte_of Code = 99
byte_of Marks = 0
byte_of Text = 0
byte_of Unread = 0

-- what a field of that class leaves, and whether it is right
unfoldable pub word_by : ℕ → ℕ → List ℕ → ℕ
word_by k n s = on k 110 (number_of s) (on k 115 (stop_of n (number_of s)) (on k 97 (company_or_any s) (code_of s)))

unfoldable pub right_by : ℕ → List ℕ → Bool
right_by k s = on k 97 (all digit s || is_wildcard s) (on k 99 (not (all_blank s)) true)

-- the codes and companies of some fields are right
unfoldable pub right_in : List ℕ → List Field → Bool
right_in body fs = all (λ f. field_right f.class (columns body f)) fs

-- the columns of a part of the tables
abbrev pub picture_in : Spans → List ℕ
picture_in s = take (s.1 - s.0) (drop s.0 pictures)

-- its figures and codes
unfoldable pub readable_in : Spans → List ℕ → Bool
readable_in s body = figures body (picture_in s) && right_in body (slice s.2 s.3 fields)

-- a line is laid, and then it is readable
abbrev pub in_order : Bool → Bool → Test
in_order laid readable = or_test (unless laid Layout) (unless readable Value)

abbrev pub layout_test : Line → List Field → Test
layout_test l fs = in_order (laid l fs) (readable l.body fs)

-- a line of a block that passed both: the record `Legible`, as a test
unfoldable pub legible : Form → Line → Bool
legible form l = fits l.body (picture (fields_of form Timetbls (letter l))) && readable l.body (fields_of form Timetbls (letter l))
