-- "The eleven files": by kind, their order, their need, their names, and a value for each.
use Rattle.std.specs.Prelude.{ℕ, List, [], ◌∷◌, Bool, true, false, None, Option, Some}
use Rattle.iff.specs.Bytes.{bytes}
use Rattle.iff.specs.declared.RowFile.{RowFile}
use Rattle.iff.specs.declared.RowFile.TheVariants.{Company, Country, Trnsmode, Stations}
use Rattle.iff.specs.declared.GroupFile.{GroupFile}
use Rattle.iff.specs.declared.GroupFile.TheVariants.{Timezone, Footnote, Changes, Xfootnote, Xchanges}
use Rattle.iff.specs.declared.File.{File}
use Rattle.iff.specs.declared.File.TheVariants.{Delivery, Rows, Groups, Timetbls}
use Rattle.iff.specs.declared.Place.{Place}

-- a value for each file: its bytes, its room, its table, its rows
pub record PerFile (A : Type 0) : Type 0 where
  pub delivery : A
  pub company : A
  pub country : A
  pub trnsmode : A
  pub timezone : A
  pub stations : A
  pub footnote : A
  pub timetbls : A
  pub changes : A
  pub xfootnote : A
  pub xchanges : A

abbrev pub of_rows : {A : Type 0} → PerFile A → RowFile → A
of_rows v Company = v.company
of_rows v Country = v.country
of_rows v Trnsmode = v.trnsmode
of_rows v Stations = v.stations

abbrev pub of_groups : {A : Type 0} → PerFile A → GroupFile → A
of_groups v Timezone = v.timezone
of_groups v Footnote = v.footnote
of_groups v Changes = v.changes
of_groups v Xfootnote = v.xfootnote
of_groups v Xchanges = v.xchanges

abbrev pub of : {A : Type 0} → PerFile A → File → A
of v Delivery = v.delivery
of v (Rows f) = of_rows v f
of v (Groups f) = of_groups v f
of v Timetbls = v.timetbls

-- eleven values, in the files' order
abbrev pub eleven : {A : Type 0} → A → A → A → A → A → A → A → A → A → A → A → PerFile A
eleven delivery company country trnsmode timezone stations footnote timetbls changes xfootnote xchanges =
    record {
      delivery = delivery;
      company = company;
      country = country;
      trnsmode = trnsmode;
      timezone = timezone;
      stations = stations;
      footnote = footnote;
      timetbls = timetbls;
      changes = changes;
      xfootnote = xfootnote;
      xchanges = xchanges;
    }

-- Read in this order.
abbrev pub in_order : List File
in_order =
    Delivery ∷ Rows Company ∷ Rows Country ∷ Rows Trnsmode ∷ Groups Timezone ∷ Rows Stations ∷ Groups Footnote ∷ Timetbls
    ∷ Groups Changes ∷ Groups Xfootnote ∷ Groups Xchanges ∷ []

-- what a function answers of each
abbrev pub per_file : {A : Type 0} → (File → A) → PerFile A
per_file f =
    eleven (f Delivery) (f (Rows Company)) (f (Rows Country)) (f (Rows Trnsmode)) (f (Groups Timezone)) (f (Rows Stations))
    (f (Groups Footnote)) (f Timetbls) (f (Groups Changes)) (f (Groups Xfootnote)) (f (Groups Xchanges))

-- a file's number in a place, from 1, in the order of reading; 0 where there is no place
abbrev pub row_file_number : RowFile → ℕ
row_file_number Company = 2
row_file_number Country = 3
row_file_number Trnsmode = 4
row_file_number Stations = 6

abbrev pub group_file_number : GroupFile → ℕ
group_file_number Timezone = 5
group_file_number Footnote = 7
group_file_number Changes = 9
group_file_number Xfootnote = 10
group_file_number Xchanges = 11

abbrev pub file_number : File → ℕ
file_number Delivery = 1
file_number (Rows f) = row_file_number f
file_number (Groups f) = group_file_number f
file_number Timetbls = 8

abbrev pub file_at : Option Place → ℕ
file_at None = 0
file_at (Some place) = file_number place.file

-- "The last three may be absent, XFOOTNOTE only if XCHANGES is too": is a file needed, given which files are there?
abbrev pub needed_groups : (File → Bool) → GroupFile → Bool
needed_groups there Timezone = true
needed_groups there Footnote = true
needed_groups there Changes = false
needed_groups there Xfootnote = there (Groups Xchanges)
needed_groups there Xchanges = false

abbrev pub needed : (File → Bool) → File → Bool
needed there Delivery = true
needed there (Rows f) = true
needed there (Groups f) = needed_groups there f
needed there Timetbls = true

-- A file is at most 268,435,455 bytes.
abbrev pub limit : ℕ
limit = 268435455

-- A file's name, as bytes.
abbrev pub row_file_name : RowFile → List ℕ
row_file_name Company = bytes "COMPANY"
row_file_name Country = bytes "COUNTRY"
row_file_name Trnsmode = bytes "TRNSMODE"
row_file_name Stations = bytes "STATIONS"

abbrev pub group_file_name : GroupFile → List ℕ
group_file_name Timezone = bytes "TIMEZONE"
group_file_name Footnote = bytes "FOOTNOTE"
group_file_name Changes = bytes "CHANGES"
group_file_name Xfootnote = bytes "XFOOTNOTE"
group_file_name Xchanges = bytes "XCHANGES"

abbrev pub file_name : File → List ℕ
file_name Delivery = bytes "DELIVERY"
file_name (Rows f) = row_file_name f
file_name (Groups f) = group_file_name f
file_name Timetbls = bytes "TIMETBLS"
