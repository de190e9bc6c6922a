-- Answers as document 01 shows them: days and services, or number, file, ordinal and line.
use Rattle.std.specs.Prelude.{ℕ, ◌*◌, List, [], ◌∷◌, Err, Ok, Option}
use Prim.Native.String.{String}
use Rattle.iff.specs.Files.{PerFile, per_file, file_at}
use Rattle.iff.specs.Refusals.{number, ordinal, line_at, Answer}
use Rattle.iff.specs.Tables.{row_width}
use Rattle.iff.specs.declared.RowFile.{RowFile}
use Rattle.iff.specs.declared.RowFile.TheVariants.{Company, Country, Trnsmode, Stations}
use Rattle.iff.specs.declared.GroupFile.{GroupFile}
use Rattle.iff.specs.declared.GroupFile.TheVariants.{Timezone, Footnote, Changes, Xfootnote, Xchanges}
use Rattle.iff.specs.declared.File.{File}
use Rattle.iff.specs.declared.File.TheVariants.{Delivery, Rows, Groups, Timetbls}
use Rattle.iff_rules.specs.Load.{load_answer}
use Rattle.small_delivery.specs.Delivery.{files}
use Rattle.iff.specs.declared.Place.{Place}

pub data Shown : Type 0 where
  accepted : ℕ → ℕ → Shown
  refused : ℕ → ℕ → ℕ → ℕ → Shown

abbrev pub shown : Answer → Shown
shown (Ok done) = accepted done.days done.services
shown (Err fault) = refused (number fault.reason) (file_at fault.place) (ordinal fault.place) (line_at fault.place)

-- a place: file, ordinal and line
abbrev pub place : Option Place → List ℕ
place p = file_at p ∷ ordinal p ∷ line_at p ∷ []

-- "The eleven files", "Read in this order": a place's file, from 1
abbrev pub DELIVERY : ℕ
DELIVERY = 1

abbrev pub COMPANY : ℕ
COMPANY = 2

abbrev pub COUNTRY : ℕ
COUNTRY = 3

abbrev pub TRNSMODE : ℕ
TRNSMODE = 4

abbrev pub TIMEZONE : ℕ
TIMEZONE = 5

abbrev pub STATIONS : ℕ
STATIONS = 6

abbrev pub FOOTNOTE : ℕ
FOOTNOTE = 7

abbrev pub TIMETBLS : ℕ
TIMETBLS = 8

abbrev pub CHANGES : ℕ
CHANGES = 9

abbrev pub XFOOTNOTE : ℕ
XFOOTNOTE = 10

abbrev pub XCHANGES : ℕ
XCHANGES = 11

-- the same in words, for labels
abbrev pub row_file : RowFile → String
row_file Company = "COMPANY"
row_file Country = "COUNTRY"
row_file Trnsmode = "TRNSMODE"
row_file Stations = "STATIONS"

abbrev pub group_file : GroupFile → String
group_file Timezone = "TIMEZONE"
group_file Footnote = "FOOTNOTE"
group_file Changes = "CHANGES"
group_file Xfootnote = "XFOOTNOTE"
group_file Xchanges = "XCHANGES"

abbrev pub file : File → String
file Delivery = "DELIVERY"
file (Rows f) = row_file f
file (Groups f) = group_file f
file Timetbls = "TIMETBLS"

-- the words of a table with room for n lines
abbrev pub room_for : ℕ → File → ℕ
room_for n f = n * row_width f

abbrev pub roomy : PerFile ℕ
roomy = per_file (room_for 70)

-- a load of eleven files into such tables
abbrev pub load_of : PerFile (List ℕ) → Shown
load_of F = shown (load_answer F roomy)

abbrev pub load : PerFile (List String) → Shown
load D = load_of (files D)
