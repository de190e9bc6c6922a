-- A line that passes its tests leaves a row that is sound: of a file of rows, of a group. Assumes nothing.
use Rattle.std.specs.Prelude.{Ok, Option}
use Prim.Native.Nat.{ℕ}
use mathlib.Core.Path.{◌≡◌, refl, ap, ◌∙◌}
use mathlib.Core.List.{List}
use mathlib.Core.Bool.{Bool, true, false, cond}
use lib.Dec.{eqb}
use lib.ListN.{length}
use Rattle.iff.specs.Bytes.{hash, at}
use Rattle.iff.specs.Refusals.{verdict_at}
use Rattle.iff.specs.Lines.{Line, letter, size}
use Rattle.iff.specs.Columns.{Field, record_fields, group_record, record_of, fields_of, picture, fits, laid, column}
use Rattle.iff.specs.Values.{readable}
use Rattle.iff.specs.Tables.{Row, tag, letterless, row_width}
use Rattle.iff.specs.declared.RowFile.{RowFile}
use Rattle.iff.specs.declared.GroupFile.{GroupFile}
use Rattle.iff.specs.declared.GroupFile.TheVariants.{Timezone, Footnote, Changes, Xfootnote, Xchanges}
use Rattle.iff.specs.declared.File.{File}
use Rattle.iff.specs.declared.File.TheVariants.{Delivery, Rows, Groups, Timetbls}
use Rattle.iff.specs.declared.Edition.{Edition}
use Rattle.iff.specs.declared.Edition.TheVariants.{Iff424}
use Rattle.iff.specs.declared.Form.{Form}
use Rattle.iff.specs.declared.Record.{Record}
use Rattle.iff.specs.declared.Record.TheVariants.{FirstRecord, CompanyRow, CountryRow, ModeRow, ZoneHead, ZonePeriod, StationRow, FootnoteHead, FootnoteVector, ServiceHead, TrainNumber, Validity, Transport, Attribute, PlainStop, Interval, Passed, Platform, ChangeHead, ChangePair, ChangeException}
use Rattle.iff_rules.specs.Order.{vector_tag, group_tag, tag_of, may_follow, group_stand}
use Rattle.iff_rules.specs.Rows.{row_of, Context}
use Rattle.iff_rules.specs.Unique.{fresh_key}
use Rattle.iff_rules.specs.Load.{plain_test, group_test}
use Rattle.iff_laws.specs.ScanLaws.{verdict_fine}
use Rattle.iff_laws.specs.TruthLaws.{both}
use Rattle.iff_laws.proofs.LineLaws.{Seven, line_passes}
use Rattle.iff_laws.specs.Tests.{asked_of_row, asked_in_group}
use Rattle.iff_desk.specs.Sound.{shaped, sound_plain_row, sound_group_row, row_size}
use Rattle.text.proofs.PictureLaws.{and_left, and_right, same_length}
use Rattle.text.proofs.PackLaws.{Each}
use Rattle.records.proofs.FileLaws.{row_tag}
use Rattle.sound_laws.proofs.WordLaws.{in_turn, line_shaped}
use Rattle.sound_laws.proofs.PassLaws.{all_hold}
use Rattle.iff.specs.declared.Place.{Place}

-- THE FIELDS OF EVERY RECORD ARE IN TURN
turn_in : (days : ℕ) (edition : Edition) (r : Record) → in_turn 1 (record_fields (record { days = days; edition = edition }) r) ≡ true
unfolding record_fields
turn_in days Iff424 FirstRecord = refl
turn_in days Iff424 CompanyRow = refl
turn_in days Iff424 CountryRow = refl
turn_in days Iff424 ModeRow = refl
turn_in days Iff424 ZoneHead = refl
turn_in days Iff424 ZonePeriod = refl
turn_in days Iff424 StationRow = refl
turn_in days Iff424 FootnoteHead = refl
turn_in days Iff424 FootnoteVector = refl
turn_in days Iff424 ServiceHead = refl
turn_in days Iff424 TrainNumber = refl
turn_in days Iff424 Validity = refl
turn_in days Iff424 Transport = refl
turn_in days Iff424 Attribute = refl
turn_in days Iff424 PlainStop = refl
turn_in days Iff424 Interval = refl
turn_in days Iff424 Passed = refl
turn_in days Iff424 Platform = refl
turn_in days Iff424 ChangeHead = refl
turn_in days Iff424 ChangePair = refl
turn_in days Iff424 ChangeException = refl

pub fields_turn : (form : Form) (r : Record) → in_turn 1 (record_fields form r) ≡ true
fields_turn form r = turn_in form.days form.edition r

-- THE FIELDS BY A ROW'S TAG are those by the line's letter
vector_hash : (x : ℕ) → eqb (vector_tag x) hash ≡ eqb x hash
vector_hash x = go (eqb x hash) (eqb x at)
  where
    go : (a b : Bool) → eqb (cond a hash (cond b at letterless)) hash ≡ a
    go true b = refl
    go false true = refl
    go false false = refl

pub group_hash : (f : GroupFile) (x : ℕ) → eqb (group_tag f x) hash ≡ eqb x hash
group_hash Timezone x = refl
group_hash Footnote x = vector_hash x
group_hash Changes x = refl
group_hash Xfootnote x = vector_hash x
group_hash Xchanges x = refl

group_record_lem : (f : GroupFile) (x : ℕ) → group_record f (group_tag f x) ≡ group_record f x
group_record_lem Timezone x = refl
group_record_lem Footnote x = ap (λ (b : Bool). cond b FootnoteHead FootnoteVector) (vector_hash x)
group_record_lem Changes x = refl
group_record_lem Xfootnote x = ap (λ (b : Bool). cond b FootnoteHead FootnoteVector) (vector_hash x)
group_record_lem Xchanges x = refl

tag_fields : (form : Form) (f : File) (x : ℕ) → fields_of form f (tag_of f x) ≡ fields_of form f x
unfolding fields_of record_of
tag_fields form Delivery x = refl
tag_fields form (Rows f) x = refl
tag_fields form (Groups f) x = ap (record_fields form) (group_record_lem f x)
tag_fields form Timetbls x = refl

-- A LINE of some fields that passed: its bytes, its layout and its figures
pub record Read (fs : List Field) (l : Line) : Type 0 where
  pub bytes : Each 256 l.body
  pub lays : laid l fs ≡ true
  pub reads : readable l.body fs ≡ true

module _ (form : Form) (f : File) (l : Line) where
  abbrev pub its_fields : List Field
  its_fields = fields_of form f (letter l)

  fields_same : fields_of form f (tag (row_of form f l)) ≡ its_fields
  fields_same = ap (fields_of form f) (row_tag form f l) ∙ tag_fields form f (letter l)

  pub row_shaped : Read its_fields l → shaped (fields_of form f (tag (row_of form f l))) (row_of form f l) ≡ true
  unfolding fields_of row_of
  row_shaped p =
      rw fields_same
      (line_shaped l.body p.bytes its_fields (fields_turn form (record_of f (letter l))) (and_right l.ended _ p.lays) p.reads
      0 (row_width f) (tag_of f (letter l)))

  -- a row tells its line's length
  pub row_size_lem : laid l its_fields ≡ true → row_size form f (row_of form f l) ≡ size l
  row_size_lem e =
      let n : length l.body ≡ length (picture its_fields) = same_length column l.body (picture its_fields) (and_right l.ended _ e) in
      rw (fields_same, ← n, and_left l.ended (fits l.body (picture its_fields)) e)

-- A ROW of a file of rows
module _ (c : Context) (f : RowFile) (earlier : List Line) (p : Option Place) (l : Line) (bytes : Each 256 l.body)
    (e : verdict_at p (plain_test c f earlier l) ≡ Ok tt) where
  pub plain_seven : Seven (asked_of_row c f earlier l)
  unfolding plain_test
  plain_seven = (line_passes _).0 (verdict_fine p (plain_test c f earlier l) e)

  pub plain_read : Read (its_fields c.form (Rows f) l) l
  plain_read = let s = plain_seven in record { bytes = bytes; lays = s.is_laid_out; reads = (both _ _ s.is_valued).0 }

  pub plain_row : sound_plain_row c f (length earlier) (row_of c.form (Rows f) l) ≡ true
  unfolding sound_plain_row
  plain_row =
      let s = plain_seven in
      let v = both (readable l.body (its_fields c.form (Rows f) l)) _ s.is_valued in
      all_hold _ (
        ap (λ (x : ℕ). eqb x letterless) (row_tag c.form (Rows f) l),
        (
          row_shaped c.form (Rows f) l plain_read,
          (
            v.1,
            (s.is_met, tt),
          ),
        ),
      )

-- A ROW of a group
module _ (c : Context) (f : GroupFile) (seen : List ℕ) (earlier : List Row) (p : Option Place) (l : Line) (bytes : Each 256 l.body)
    (e : verdict_at p (group_test c f seen earlier l) ≡ Ok tt) where
  pub group_seven : Seven (asked_in_group c f seen earlier l)
  unfolding group_test
  group_seven = (line_passes _).0 (verdict_fine p (group_test c f seen earlier l) e)

  pub group_read : Read (its_fields c.form (Groups f) l) l
  group_read = let s = group_seven in record { bytes = bytes; lays = s.is_laid_out; reads = (both _ _ s.is_valued).0 }

  pub group_row_lem : sound_group_row c f earlier (row_of c.form (Groups f) l) ≡ true
  unfolding sound_group_row
  group_row_lem =
      let s = group_seven in
      let v = both (readable l.body (its_fields c.form (Groups f) l)) _ s.is_valued in
      let u = both (fresh_key (Groups f) seen (row_of c.form (Groups f) l)) _ s.is_fresh in
      all_hold _ (
        ap (may_follow f (group_stand earlier)) (row_tag c.form (Groups f) l) ∙ s.is_here,
        (
          row_shaped c.form (Groups f) l group_read,
          (
            v.1,
            (
              u.1,
              (s.is_met, tt),
            ),
          ),
        ),
      )
