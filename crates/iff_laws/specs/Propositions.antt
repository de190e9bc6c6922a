-- WHAT THE PAPER SAYS OF KEYS, OF REFERENCES AND OF LEGS, in propositions: there is a row, no line before, at the same place.
-- `UniqueLaws`, `ReferenceLaws` and `LegLaws` prove that the rules test just these.
use Rattle.std.specs.Prelude.{ℕ, ◌≤◌, ◌<◌, ◌≡◌, List, [], ◌∷◌, false, length, get_or, Some}
use Rattle.iff.specs.Bytes.{hash, percent, dash, ampersand, asterisk, question}
use Rattle.iff.specs.Lists.{has}
use Rattle.iff.specs.Files.{PerFile}
use Rattle.iff.specs.Lines.{Line}
use Rattle.iff.specs.Columns.{cols, Text, columns}
use Rattle.iff.specs.Days.{day_of}
use Rattle.iff.specs.Tables.{Row, tag, letterless}
use Rattle.iff.specs.Words.{named, company_number, short_name, period_first, period_last, from_service, to_service, from_company, from_mode, to_company, to_mode, exception_footnote, station_country, station_zone, attribute_footnote, train_first, train_last, record_first, record_last}
use Rattle.iff.specs.declared.RowFile.{RowFile}
use Rattle.iff.specs.declared.RowFile.TheVariants.{Company, Country, Trnsmode, Stations}
use Rattle.iff.specs.declared.GroupFile.{GroupFile}
use Rattle.iff.specs.declared.GroupFile.TheVariants.{Timezone, Footnote, Changes, Xfootnote, Xchanges}
use Rattle.iff.specs.declared.File.TheVariants.{Rows}
use Rattle.iff.specs.declared.Form.{Form}
use Rattle.iff_rules.specs.Rows.{row_of}
use Rattle.iff_rules.specs.References.{any_company, any_mode}
use Rattle.iff_rules.specs.Legs.{stops_of}
use Rattle.iff_laws.specs.Places.{line_no, row_no}

-- UNIQUE. "Company number, code and name; country code and name; mode code and text; .. short name"
abbrev pub row_key : RowFile → Row → ℕ
row_key Company r = company_number r
row_key Country r = named r
row_key Trnsmode r = named r
row_key Stations r = short_name r

-- no line before has the key of this one
abbrev pub NewKey : Form → RowFile → List Line → Line → Type 0
NewKey form f earlier l =
    (i : ℕ) → i < length earlier → row_key f (row_of form (Rows f) l) ≡ row_key f (row_of form (Rows f) (line_no earlier i)) → ⊥

-- no line before has what this one has in these columns
abbrev pub NewText : ℕ → ℕ → List Line → Line → Type 0
NewText from to earlier l =
    (i : ℕ) → i < length earlier → columns l.body (cols from to Text) ≡ columns (line_no earlier i).body (cols from to Text) → ⊥

abbrev pub NewTexts : RowFile → List Line → Line → Type 0
NewTexts Company earlier l = NewText 5 14 earlier l × NewText 16 45 earlier l
NewTexts Country earlier l = NewText 8 37 earlier l
NewTexts Trnsmode earlier l = NewText 6 35 earlier l
NewTexts Stations earlier l = Unit {0}

-- "zone; .. footnote within its file; service; station within CHANGES and within XCHANGES": none of the keys before is this one
abbrev pub New : ℕ → List ℕ → Type 0
New key earlier = (i : ℕ) → i < length earlier → key ≡ get_or earlier i 0 → ⊥

-- a line beginning `#` has a new key
abbrev pub NewHash : List ℕ → Row → Type 0
NewHash seen r = tag r ≡ hash → New (named r) seen

-- "Periods of one zone do not overlap": two overlap where each begins on or before the day on which the other ends
pub record NotAfter (first last : ℕ) : Type 0 where
  pub from : ℕ
  pub to : ℕ
  pub is_first : day_of first ≡ Some from
  pub is_last : day_of last ≡ Some to
  pub in_turn_lem : from ≤ to

pub record Overlap (r e : Row) : Type 0 where
  pub begins : NotAfter (period_first r) (period_last e)
  pub ends : NotAfter (period_first e) (period_last r)

-- or, of periods whose first day is not after the last, where some day lies in both (`UniqueLaws.overlap-shares`)
pub record InPeriod (first last day : ℕ) : Type 0 where
  pub from : ℕ
  pub to : ℕ
  pub is_first : day_of first ≡ Some from
  pub is_last : day_of last ≡ Some to
  pub not_before : from ≤ day
  pub not_after : day ≤ to

pub record SharedDay (r e : Row) : Type 0 where
  pub day : ℕ
  pub in_one : InPeriod (period_first r) (period_last r) day
  pub in_other : InPeriod (period_first e) (period_last e) day

-- "a pair of services under one CHANGES station"
pub record SamePair (r e : Row) : Type 0 where
  pub from : from_service r ≡ from_service e
  pub to : to_service r ≡ to_service e

-- "the four keys with footnote under one XCHANGES station"
pub record SameException (r e : Row) : Type 0 where
  pub from_company_lem : from_company r ≡ from_company e
  pub from_mode_lem : from_mode r ≡ from_mode e
  pub to_company_lem : to_company r ≡ to_company e
  pub to_mode_lem : to_mode r ≡ to_mode e
  pub footnote : exception_footnote r ≡ exception_footnote e

abbrev pub Clash : GroupFile → Row → Row → Type 0
Clash Timezone r e = Overlap r e
Clash Footnote r e = ⊥
Clash Changes r e = SamePair r e
Clash Xfootnote r e = ⊥
Clash Xchanges r e = SameException r e

-- a row after the `#` clashes with none of those between
abbrev pub NewInGroup : GroupFile → List Row → Row → Type 0
NewInGroup f earlier r = (tag r ≡ hash → ⊥) → (i : ℕ) → i < length earlier → Clash f r (row_no earlier i) → ⊥

-- REFERENCES. Some row of a file, one with this tag and not the first line, has this key in its key's word
pub record Keyed (t : ℕ) (key_of : Row → ℕ) (rs : List Row) (key : ℕ) : Type 0 where
  pub which : ℕ
  pub inside : which < length rs
  pub tagged : tag (row_no rs which) ≡ t
  pub its_key : key ≡ key_of (row_no rs which)

-- "Companies, modes, countries, zones, stations, services and footnotes named anywhere must be in their own file"; D has the rows of the files
module _ (D : PerFile (List Row)) where
  abbrev pub IsCompany : ℕ → Type 0
  IsCompany = Keyed letterless company_number D.company

  abbrev pub IsMode : ℕ → Type 0
  IsMode = Keyed letterless named D.trnsmode

  abbrev pub IsCountry : ℕ → Type 0
  IsCountry = Keyed letterless named D.country

  abbrev pub IsZone : ℕ → Type 0
  IsZone = Keyed hash named D.timezone

  abbrev pub IsStation : ℕ → Type 0
  IsStation = Keyed letterless short_name D.stations

  abbrev pub IsService : ℕ → Type 0
  IsService = Keyed hash named D.timetbls

  -- "XCHANGES footnotes are in XFOOTNOTE, all others in FOOTNOTE."
  abbrev pub IsFootnote : ℕ → Type 0
  IsFootnote = Keyed hash named D.footnote

  abbrev pub IsXfootnote : ℕ → Type 0
  IsXfootnote = Keyed hash named D.xfootnote

  -- a station's country and zone; the other files of rows name nothing
  pub record StationRefers (r : Row) : Type 0 where
    pub country : IsCountry (station_country r)
    pub zone : IsZone (station_zone r)

  abbrev pub RowRefers : RowFile → Row → Type 0
  RowRefers Company r = Unit {0}
  RowRefers Country r = Unit {0}
  RowRefers Trnsmode r = Unit {0}
  RowRefers Stations r = StationRefers r

  -- a record of a block. "The attribute code is not looked up." The others, `>` `.` `+` `<` and `;`, name a station; a `#` names none
  pub record BlockRefers (r : Row) : Type 0 where
    pub train : tag r ≡ percent → IsCompany (named r)
    pub validity : tag r ≡ dash → IsFootnote (named r)
    pub transport : tag r ≡ ampersand → IsMode (named r)
    pub attribute : tag r ≡ asterisk → IsFootnote (attribute_footnote r)
    pub platform : tag r ≡ question → IsFootnote (named r)
    pub stop : has (tag r) (hash ∷ percent ∷ dash ∷ ampersand ∷ asterisk ∷ question ∷ []) ≡ false → IsStation (named r)

  -- a pair of CHANGES, and a row of XCHANGES: "An XCHANGES wildcard needs no row in COMPANY or TRNSMODE."
  pub record PairRefers (r : Row) : Type 0 where
    pub from : IsService (from_service r)
    pub to : IsService (to_service r)

  pub record ExceptionRefers (r : Row) : Type 0 where
    pub from_company_lem : (from_company r ≡ any_company → ⊥) → IsCompany (from_company r)
    pub from_mode_lem : (from_mode r ≡ any_mode → ⊥) → IsMode (from_mode r)
    pub to_company_lem : (to_company r ≡ any_company → ⊥) → IsCompany (to_company r)
    pub to_mode_lem : (to_mode r ≡ any_mode → ⊥) → IsMode (to_mode r)
    pub footnote : IsXfootnote (exception_footnote r)

  -- a row of a group: zones and footnotes name nothing; a `#` of CHANGES and XCHANGES names a station
  pub record ChangeRefers (Later : Row → Type 0) (r : Row) : Type 0 where
    pub station : tag r ≡ hash → IsStation (named r)
    pub later : (tag r ≡ hash → ⊥) → Later r

  abbrev pub GroupRefers : GroupFile → Row → Type 0
  GroupRefers Timezone r = Unit {0}
  GroupRefers Footnote r = Unit {0}
  GroupRefers Changes r = ChangeRefers PairRefers r
  GroupRefers Xfootnote r = Unit {0}
  GroupRefers Xchanges r = ChangeRefers ExceptionRefers r

-- LEGS. "For `%`, `-` and `&`: 1 ≤ first < last ≤ n." "For `*`: 1 ≤ first ≤ last ≤ n."
pub record Ranged (n first last : ℕ) : Type 0 where
  pub from_one : 1 ≤ first
  pub rises : first < last
  pub to_end : last ≤ n

pub record RangedOrOne (n first last : ℕ) : Type 0 where
  pub from_one : 1 ≤ first
  pub in_turn_lem : first ≤ last
  pub to_end : last ≤ n

pub record InRange (n : ℕ) (r : Row) : Type 0 where
  pub train : tag r ≡ percent → Ranged n (train_first r) (train_last r)
  pub validity : tag r ≡ dash → Ranged n (record_first r) (record_last r)
  pub transport : tag r ≡ ampersand → Ranged n (record_first r) (record_last r)
  pub attribute : tag r ≡ asterisk → RangedOrOne n (record_first r) (record_last r)

-- leg k, from stop k to the next, lies in a record of this kind
pub record Lies (kind : ℕ) (first last : Row → ℕ) (k : ℕ) (r : Row) : Type 0 where
  pub of_kind_lem : tag r ≡ kind
  pub not_before : first r ≤ k
  pub not_after : k < last r

-- and in exactly one: there is such a record, and any such record is at its place
pub record LiesInOne (kind : ℕ) (first last : Row → ℕ) (k : ℕ) (rs : List Row) : Type 0 where
  pub which : ℕ
  pub inside : which < length rs
  pub lies : Lies kind first last k (row_no rs which)
  pub no_other : (i : ℕ) → i < length rs → Lies kind first last k (row_no rs i) → i ≡ which

-- "for each kind every leg lies in exactly one record": the legs of n stops are 1 to n - 1
abbrev pub EveryLeg : ℕ → (Row → ℕ) → (Row → ℕ) → List Row → Type 0
EveryLeg kind first last rs = (k : ℕ) → 1 ≤ k → k < stops_of rs → LiesInOne kind first last k rs

-- THE ROWS OF A BLOCK of n stops
pub record LegsMeet (rs : List Row) : Type 0 where
  pub ranges : (i : ℕ) → i < length rs → InRange (stops_of rs) (row_no rs i)
  pub trains : EveryLeg percent train_first train_last rs
  pub validities : EveryLeg dash record_first record_last rs
  pub transports : EveryLeg ampersand record_first record_last rs
