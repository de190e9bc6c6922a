-- "Columns": every record as data. Length without CR LF, then fields by column; a comma stands in each gap.
use Rattle.std.specs.Prelude.{ℕ, suc, ◌+◌, ◌-◌, List, [], ◌∷◌, ◌++◌, Bool, true, ◌&&◌, cond, take, drop, replicate, eqb}
use Rattle.iff.specs.Bytes.{hash, percent, ampersand, asterisk, plus, comma, dash, semicolon, question, allowed, digit, zero_or_one}
use Rattle.iff.specs.Lists.{all2}
use Rattle.iff.specs.Lines.{Line}
use Rattle.iff.specs.declared.Record.{Record}
use Rattle.iff.specs.declared.Record.TheVariants.{FirstRecord, CompanyRow, CountryRow, ModeRow, ZoneHead, ZonePeriod, StationRow, FootnoteHead, FootnoteVector, ServiceHead, TrainNumber, Validity, Transport, Attribute, PlainStop, Interval, Passed, Platform, ChangeHead, ChangePair, ChangeException}
use Rattle.iff.specs.declared.RowFile.{RowFile}
use Rattle.iff.specs.declared.RowFile.TheVariants.{Company, Country, Trnsmode, Stations}
use Rattle.iff.specs.declared.GroupFile.{GroupFile}
use Rattle.iff.specs.declared.GroupFile.TheVariants.{Timezone, Footnote, Changes, Xfootnote, Xchanges}
use Rattle.iff.specs.declared.File.{File}
use Rattle.iff.specs.declared.File.TheVariants.{Delivery, Rows, Groups, Timetbls}
use Rattle.iff.specs.declared.Edition.{Edition}
use Rattle.iff.specs.declared.Edition.TheVariants.{Iff424}
use Rattle.iff.specs.declared.Form.{Form}

-- what a field holds: the record's letter; a number; a stop's number (first, last); a company's number or the wildcard;
-- a code; a vector's marks; free text; a column that is not read
pub data Class : Type 0 where
  Letter : Class
  Number : Class
  StopNumber : Class
  NumberOrAny : Class
  Code : Class
  Marks : Class
  Text : Class
  Unread : Class

pub record Field : Type 0 where
  pub from : ℕ
  pub width : ℕ
  pub class : Class

-- columns a to e, both counted, the first column being 1, as the paper writes them
abbrev pub cols : ℕ → ℕ → Class → Field
cols a e k = record { from = a; width = suc e - a; class = k }

abbrev pub letter_field : Field
letter_field = cols 1 1 Letter

-- `@`, first line of each file: company 2-4, first day 6-13, last day 15-22, version 24-27, text 29-58
abbrev pub first_fields : List Field
first_fields = letter_field ∷ cols 2 4 Number ∷ cols 6 13 Number ∷ cols 15 22 Number ∷ cols 24 27 Number ∷ cols 29 58 Text ∷ []

-- COMPANY: number 1-3, code 5-14, name 16-45, day turn 47-50
abbrev pub company_fields : List Field
company_fields = cols 1 3 Number ∷ cols 5 14 Text ∷ cols 16 45 Text ∷ cols 47 50 Number ∷ []

-- COUNTRY: code 1-4, inland 6, name 8-37
abbrev pub country_fields : List Field
country_fields = cols 1 4 Code ∷ cols 6 6 Number ∷ cols 8 37 Text ∷ []

-- TRNSMODE: code 1-4, text 6-35
abbrev pub mode_fields : List Field
mode_fields = cols 1 4 Code ∷ cols 6 35 Text ∷ []

-- TIMEZONE `#`: zone 2-5
abbrev pub zone_fields : List Field
zone_fields = letter_field ∷ cols 2 5 Number ∷ []

-- TIMEZONE `+` or `-`: hours 2-3, first day 5-12, last day 14-21
abbrev pub period_fields : List Field
period_fields = letter_field ∷ cols 2 3 Number ∷ cols 5 12 Number ∷ cols 14 21 Number ∷ []

-- STATIONS: change flag 1, short name 3-9, change time 11-12, maximum 14-15, country 17-20, zone 22-25, 27-28, x 30-35, y 37-42, name 44-73
abbrev pub station_fields : List Field
station_fields =
    cols 1 1 Number ∷ cols 3 9 Code ∷ cols 11 12 Number ∷ cols 14 15 Unread ∷ cols 17 20 Code ∷ cols 22 25 Number
    ∷ cols 27 28 Unread ∷ cols 30 35 Unread ∷ cols 37 42 Unread ∷ cols 44 73 Text ∷ []

-- FOOTNOTE, XFOOTNOTE `#`: number 2-6
abbrev pub footnote_fields : List Field
footnote_fields = letter_field ∷ cols 2 6 Number ∷ []

-- then one vector line of `0` and `1`, one per day of validity
abbrev pub vector_fields : ℕ → List Field
vector_fields days = cols 1 days Marks ∷ []

-- TIMETBLS `#`: service 2-9
abbrev pub service_fields : List Field
service_fields = letter_field ∷ cols 2 9 Number ∷ []

-- `%`: company 2-4, number 6-10, variant 12-18, first 20-22, last 24-26, name 28-57. The variant's width decides what follows it.
abbrev pub number_fields : ℕ → List Field
number_fields variant =
    letter_field ∷ cols 2 4 Number ∷ cols 6 10 Number ∷ cols 12 (11 + variant) Text ∷ cols (13 + variant) (15 + variant) StopNumber
    ∷ cols (17 + variant) (19 + variant) StopNumber ∷ cols (21 + variant) (50 + variant) Text ∷ []

-- `-`: footnote 2-6, first 8-10, last 12-14
abbrev pub validity_fields : List Field
validity_fields = letter_field ∷ cols 2 6 Number ∷ cols 8 10 StopNumber ∷ cols 12 14 StopNumber ∷ []

-- `&`: mode 2-5, first 7-9, last 11-13
abbrev pub transport_fields : List Field
transport_fields = letter_field ∷ cols 2 5 Code ∷ cols 7 9 StopNumber ∷ cols 11 13 StopNumber ∷ []

-- `*`: attribute 2-5, first 7-9, last 11-13, footnote 15-19
abbrev pub attribute_fields : List Field
attribute_fields = letter_field ∷ cols 2 5 Code ∷ cols 7 9 StopNumber ∷ cols 11 13 StopNumber ∷ cols 15 19 Number ∷ []

-- `>` `.` `<`: station 2-8, time 10-13
abbrev pub stop_fields : List Field
stop_fields = letter_field ∷ cols 2 8 Code ∷ cols 10 13 Number ∷ []

-- `+`: station 2-8, arrival 10-13, departure 15-18
abbrev pub interval_fields : List Field
interval_fields = letter_field ∷ cols 2 8 Code ∷ cols 10 13 Number ∷ cols 15 18 Number ∷ []

-- `;`: passed station 2-8
abbrev pub passed_fields : List Field
passed_fields = letter_field ∷ cols 2 8 Code ∷ []

-- `?`: platforms 2-6 and 8-12, footnote 14-18
abbrev pub platform_fields : List Field
platform_fields = letter_field ∷ cols 2 6 Text ∷ cols 8 12 Text ∷ cols 14 18 Number ∷ []

-- CHANGES, XCHANGES `#`: station 2-8
abbrev pub change_station_fields : List Field
change_station_fields = letter_field ∷ cols 2 8 Code ∷ []

-- CHANGES `-`: from service 2-9, to service 11-18, possibility 20-21
abbrev pub pair_fields : List Field
pair_fields = letter_field ∷ cols 2 9 Number ∷ cols 11 18 Number ∷ cols 20 21 Number ∷ []

-- XCHANGES `-`: from company 2-4, from mode 6-9, to company 11-13, to mode 15-18, time 20-22, footnote 24-28
abbrev pub exception_fields : List Field
exception_fields =
    letter_field ∷ cols 2 4 NumberOrAny ∷ cols 6 9 Code ∷ cols 11 13 NumberOrAny ∷ cols 15 18 Code ∷ cols 20 22 Number ∷ cols 24 28 Number ∷ []

-- the variant's width in an edition: 4.2.4's is 12-18
abbrev pub variant_of : Edition → ℕ
variant_of Iff424 = 7

-- the form of a delivery of 4.2.4 over some days
abbrev pub form424 : ℕ → Form
form424 days = record { days = days; edition = Iff424 }

-- one value for each letter of a list of cases, else the last
abbrev pub on : {A : Type 0} → ℕ → ℕ → A → A → A
on x k a b = cond (eqb x k) a b

-- every record of the table; a vector has as many columns as there are days
unfoldable pub record_fields : Form → Record → List Field
record_fields form FirstRecord = first_fields
record_fields form CompanyRow = company_fields
record_fields form CountryRow = country_fields
record_fields form ModeRow = mode_fields
record_fields form ZoneHead = zone_fields
record_fields form ZonePeriod = period_fields
record_fields form StationRow = station_fields
record_fields form FootnoteHead = footnote_fields
record_fields form FootnoteVector = vector_fields form.days
record_fields form ServiceHead = service_fields
record_fields form TrainNumber = number_fields (variant_of form.edition)
record_fields form Validity = validity_fields
record_fields form Transport = transport_fields
record_fields form Attribute = attribute_fields
record_fields form PlainStop = stop_fields
record_fields form Interval = interval_fields
record_fields form Passed = passed_fields
record_fields form Platform = platform_fields
record_fields form ChangeHead = change_station_fields
record_fields form ChangePair = pair_fields
record_fields form ChangeException = exception_fields

-- the record that begins with x, after the first line; in a file without record letters, its row
unfoldable pub block_record : ℕ → Record
block_record x =
    on x hash ServiceHead
    (on x percent TrainNumber
    (on x dash Validity
    (on x ampersand Transport
    (on x asterisk Attribute
    (on x plus Interval
    (on x semicolon Passed
    (on x question Platform
    PlainStop)))))))

abbrev pub row_record : RowFile → Record
row_record Company = CompanyRow
row_record Country = CountryRow
row_record Trnsmode = ModeRow
row_record Stations = StationRow

abbrev pub group_record : GroupFile → ℕ → Record
group_record Timezone x = on x hash ZoneHead ZonePeriod
group_record Footnote x = on x hash FootnoteHead FootnoteVector
group_record Changes x = on x hash ChangeHead ChangePair
group_record Xfootnote x = on x hash FootnoteHead FootnoteVector
group_record Xchanges x = on x hash ChangeHead ChangeException

unfoldable pub record_of : File → ℕ → Record
record_of Delivery x = FirstRecord
record_of (Rows f) x = row_record f
record_of (Groups f) x = group_record f x
record_of Timetbls x = block_record x

unfoldable pub fields_of : Form → File → ℕ → List Field
fields_of form f x = record_fields form (record_of f x)

-- a record's columns, one mark for each: a comma for a gap, else what the column's field holds
abbrev pub mark : Class → ℕ
mark Letter = 108
mark Number = 110
mark StopNumber = 110
mark NumberOrAny = 97
mark Code = 99
mark Marks = 109
mark Text = 116
mark Unread = 117

-- from column k on
unfoldable pub picture_from : ℕ → List Field → List ℕ
picture_from k [] = []
picture_from k (f ∷ fs) = replicate (f.from - k) comma ++ (replicate f.width (mark f.class) ++ picture_from (f.from + f.width) fs)

abbrev pub picture : List Field → List ℕ
picture fs = picture_from 1 fs

-- Layout, refusal 4: the record's length, a comma in each gap, allowed bytes, CR LF. (A comma elsewhere is an allowed byte like any other.)
unfoldable pub column : ℕ → ℕ → Bool
column b p = cond (eqb p comma) (eqb b comma) (allowed b)

abbrev pub fits : List ℕ → List ℕ → Bool
fits body pic = all2 column body pic

abbrev pub laid : Line → List Field → Bool
laid l fs = l.ended && fits l.body (picture fs)

-- Digits, refusal 5: a digit where a number is due, '0' or '1' where a vector's mark is
unfoldable pub figure : ℕ → ℕ → Bool
figure b p = cond (eqb p 110) (digit b) (cond (eqb p 109) (zero_or_one b) true)

abbrev pub figures : List ℕ → List ℕ → Bool
figures body pic = all2 figure body pic

-- the bytes of a field
abbrev pub columns : List ℕ → Field → List ℕ
columns body f = take f.width (drop (f.from - 1) body)
