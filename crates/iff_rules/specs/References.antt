-- "References": what is named must be in its own file.
use Rattle.std.specs.Prelude.{ℕ, Bool, true, ◌&&◌, ◌||◌, cond, eqb}
use Rattle.iff.specs.Bytes.{hash, percent, dash, ampersand, asterisk, question}
use Rattle.iff.specs.Lists.{has}
use Rattle.iff.specs.Columns.{on}
use Rattle.iff.specs.Values.{code_of, wildcard}
use Rattle.iff.specs.Tables.{Row, tag}
use Rattle.iff.specs.Words.{named, attribute_footnote, station_country, station_zone, from_service, to_service, from_company, from_mode, to_company, to_mode, exception_footnote}
use Rattle.iff.specs.declared.RowFile.{RowFile}
use Rattle.iff.specs.declared.RowFile.TheVariants.{Company, Country, Trnsmode, Stations}
use Rattle.iff.specs.declared.GroupFile.{GroupFile}
use Rattle.iff.specs.declared.GroupFile.TheVariants.{Timezone, Footnote, Changes, Xfootnote, Xchanges}
use Rattle.iff.specs.declared.File.{File}
use Rattle.iff.specs.declared.File.TheVariants.{Rows, Groups, Timetbls}
use Rattle.iff_rules.specs.Rows.{Context}

-- "An XCHANGES wildcard needs no row in COMPANY or TRNSMODE."
abbrev pub any_company : ℕ
any_company = code_of (wildcard 3)

abbrev pub any_mode : ℕ
any_mode = code_of (wildcard 4)

-- a file has a row of this key
abbrev pub names : Context → File → ℕ → Bool
names c f key = has key (c.keys f)

-- a row of a file of rows: only STATIONS names anything
unfoldable pub met_by_row : Context → RowFile → Row → Bool
met_by_row c Company r = true
met_by_row c Country r = true
met_by_row c Trnsmode r = true
met_by_row c Stations r = names c (Rows Country) (station_country r) && names c (Groups Timezone) (station_zone r)

-- a record of a block. "The attribute code is not looked up."
unfoldable pub met_in_block : Context → Row → Bool
met_in_block c r =
    on (tag r) hash true
    (on (tag r) percent (names c (Rows Company) (named r))
    (on (tag r) dash (names c (Groups Footnote) (named r))
    (on (tag r) ampersand (names c (Rows Trnsmode) (named r))
    (on (tag r) asterisk (names c (Groups Footnote) (attribute_footnote r))
    (on (tag r) question (names c (Groups Footnote) (named r))
    (names c (Rows Stations) (named r)))))))

abbrev pub met_pair : Context → Row → Bool
met_pair c r = names c Timetbls (from_service r) && names c Timetbls (to_service r)

-- "XCHANGES footnotes are in XFOOTNOTE, all others in FOOTNOTE."
abbrev pub met_company : Context → ℕ → Bool
met_company c key = eqb key any_company || names c (Rows Company) key

abbrev pub met_mode : Context → ℕ → Bool
met_mode c key = eqb key any_mode || names c (Rows Trnsmode) key

abbrev pub met_exception : Context → Row → Bool
met_exception c r =
    met_company c (from_company r)
    && (met_mode c (from_mode r)
    && (met_company c (to_company r)
    && (met_mode c (to_mode r)
    && names c (Groups Xfootnote) (exception_footnote r))))

-- a row of a group: zones and footnotes name nothing
unfoldable pub met_in_group : Context → GroupFile → Row → Bool
met_in_group c Timezone r = true
met_in_group c Footnote r = true
met_in_group c Changes r = cond (eqb (tag r) hash) (names c (Rows Stations) (named r)) (met_pair c r)
met_in_group c Xfootnote r = true
met_in_group c Xchanges r = cond (eqb (tag r) hash) (names c (Rows Stations) (named r)) (met_exception c r)
