-- What a reference is looked up in: a context agrees with lent tables on the keys that are asked for, and on nothing else.
use Rattle.std.specs.Prelude.{ℕ, ◌≡◌, Bool, ◌&&◌, ◌||◌, List, eqb}
use Rattle.iff.specs.declared.RowFile.TheVariants.{Company, Country, Trnsmode, Stations}
use Rattle.iff.specs.declared.GroupFile.TheVariants.{Timezone, Footnote, Xfootnote}
use Rattle.iff.specs.declared.File.TheVariants.{Rows, Groups, Timetbls}
use Rattle.iff.specs.Lists.{has}
use Rattle.iff.specs.Tables.{Row}
use Rattle.iff.specs.Words.{from_company, from_mode, to_company, to_mode, exception_footnote}
use Rattle.iff_rules.specs.Rows.{Context}
use Rattle.iff_rules.specs.References.{any_company, any_mode}
use Rattle.keys.specs.Lookup.{keys_in, keys_among}
use Rattle.references.specs.declared.BlockCounts.{BlockCounts}
use Rattle.references.specs.declared.StationCounts.{StationCounts}
use Rattle.references.specs.declared.GroupCounts.{GroupCounts}

-- what a line of a TIMETBLS block names
pub record BlockKeys (c : Context) (co mo st fo : List ℕ) : Type 0 where
  pub companies : c.keys (Rows Company) ≡ keys_in (Rows Company) co
  pub modes : c.keys (Rows Trnsmode) ≡ keys_in (Rows Trnsmode) mo
  pub stations : c.keys (Rows Stations) ≡ keys_in (Rows Stations) st
  pub footnotes : c.keys (Groups Footnote) ≡ keys_in (Groups Footnote) fo

-- what a row of STATIONS names
pub record StationKeys (c : Context) (cy zo : List ℕ) : Type 0 where
  pub countries : c.keys (Rows Country) ≡ keys_in (Rows Country) cy
  pub zones : c.keys (Groups Timezone) ≡ keys_in (Groups Timezone) zo

-- what a row of any file of groups names; services among the first n rows of their table, which its reader has counted
pub record GroupKeys (c : Context) (n : ℕ) (co mo st se xf : List ℕ) : Type 0 where
  pub companies : c.keys (Rows Company) ≡ keys_in (Rows Company) co
  pub modes : c.keys (Rows Trnsmode) ≡ keys_in (Rows Trnsmode) mo
  pub stations : c.keys (Rows Stations) ≡ keys_in (Rows Stations) st
  pub services : c.keys Timetbls ≡ keys_among Timetbls n se
  pub xfootnotes : c.keys (Groups Xfootnote) ≡ keys_in (Groups Xfootnote) xf

-- THE SAME AMONG THE FIRST ROWS, so many of each table as were counted
pub record BlockKeysAmong (c : Context) (n : BlockCounts) (co mo st fo : List ℕ) : Type 0 where
  pub companies : c.keys (Rows Company) ≡ keys_among (Rows Company) n.companies co
  pub modes : c.keys (Rows Trnsmode) ≡ keys_among (Rows Trnsmode) n.modes mo
  pub stations : c.keys (Rows Stations) ≡ keys_among (Rows Stations) n.stations st
  pub footnotes : c.keys (Groups Footnote) ≡ keys_among (Groups Footnote) n.footnotes fo

-- what a row of STATIONS names
pub record StationKeysAmong (c : Context) (n : StationCounts) (cy zo : List ℕ) : Type 0 where
  pub countries : c.keys (Rows Country) ≡ keys_among (Rows Country) n.countries cy
  pub zones : c.keys (Groups Timezone) ≡ keys_among (Groups Timezone) n.zones zo

-- what a row of CHANGES names
pub record ChangeKeysAmong (c : Context) (n : GroupCounts) (st se : List ℕ) : Type 0 where
  pub stations : c.keys (Rows Stations) ≡ keys_among (Rows Stations) n.stations st
  pub services : c.keys Timetbls ≡ keys_among Timetbls n.services se

-- what a row of XCHANGES names
pub record ExceptionKeysAmong (c : Context) (n : GroupCounts) (co mo st xf : List ℕ) : Type 0 where
  pub companies : c.keys (Rows Company) ≡ keys_among (Rows Company) n.companies co
  pub modes : c.keys (Rows Trnsmode) ≡ keys_among (Rows Trnsmode) n.modes mo
  pub stations : c.keys (Rows Stations) ≡ keys_among (Rows Stations) n.stations st
  pub xfootnotes : c.keys (Groups Xfootnote) ≡ keys_among (Groups Xfootnote) n.xfootnotes xf

pub record GroupKeysAmong (c : Context) (n : GroupCounts) (co mo st se xf : List ℕ) : Type 0 where
  pub companies : c.keys (Rows Company) ≡ keys_among (Rows Company) n.companies co
  pub modes : c.keys (Rows Trnsmode) ≡ keys_among (Rows Trnsmode) n.modes mo
  pub stations : c.keys (Rows Stations) ≡ keys_among (Rows Stations) n.stations st
  pub services : c.keys Timetbls ≡ keys_among Timetbls n.services se
  pub xfootnotes : c.keys (Groups Xfootnote) ≡ keys_among (Groups Xfootnote) n.xfootnotes xf

-- an exception's two sides and its footnote, looked up in tables
abbrev pub met_side : GroupCounts → List ℕ → List ℕ → ℕ → ℕ → Bool
met_side n co mo company mode =
    (eqb company any_company || has company (keys_among (Rows Company) n.companies co))
    && (eqb mode any_mode || has mode (keys_among (Rows Trnsmode) n.modes mo))

abbrev pub met_sides : GroupCounts → List ℕ → List ℕ → List ℕ → Row → Bool
met_sides n co mo xf r =
    met_side n co mo (from_company r) (from_mode r)
    && (met_side n co mo (to_company r) (to_mode r)
    && has (exception_footnote r) (keys_among (Groups Xfootnote) n.xfootnotes xf))
