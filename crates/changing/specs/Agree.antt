-- The tables that a change reads: DELIVERY, TIMEZONE, STATIONS, FOOTNOTE, TIMETBLS, CHANGES, XFOOTNOTE, XCHANGES, in this order.
use Rattle.std.specs.Prelude.{ℕ, ◌≤◌, ◌≡◌, List, length, Option, Some}
use Rattle.iff.specs.Files.{PerFile}
use Rattle.iff.specs.Days.{span, longest}
use Rattle.iff.specs.Tables.{Row, rows_in}
use Rattle.iff.specs.Words.{first_day, last_day}
use Rattle.iff.specs.declared.RowFile.TheVariants.{Stations}
use Rattle.iff.specs.declared.GroupFile.TheVariants.{Timezone, Footnote, Changes, Xfootnote, Xchanges}
use Rattle.iff.specs.declared.File.TheVariants.{Delivery, Rows, Groups, Timetbls}
use Rattle.iff_rules.specs.Rows.{first_of}
use Rattle.slots.specs.Slots.{Index}
use Rattle.store.specs.Found.{Stored, BlocksTold}
use Rattle.zone_times.specs.Clocks.{FewMinutes}
use Rattle.day_times.specs.Told.{FewHours}
use Rattle.needed_times.specs.declared.StoreCounts.{StoreCounts}
use Rattle.iff_desk.specs.declared.Moment.{Moment}

-- ROWS THAT ARE THOSE OF THE LENT TABLES, and of the other files any: what tells the periods, what gives a needed time, and all
pub record ZoneRows (R : PerFile (List Row)) (d tz st : List ℕ) : Type 0 where
  pub delivery : R.delivery ≡ rows_in Delivery d
  pub timezone : R.timezone ≡ rows_in (Groups Timezone) tz
  pub stations : R.stations ≡ rows_in (Rows Stations) st

pub record NeedRows (R : PerFile (List Row)) (ch xf xc : List ℕ) : Type 0 where
  pub changes : R.changes ≡ rows_in (Groups Changes) ch
  pub xfootnote : R.xfootnote ≡ rows_in (Groups Xfootnote) xf
  pub xchanges : R.xchanges ≡ rows_in (Groups Xchanges) xc

pub record RowsOf (R : PerFile (List Row)) (d tz st fo tt ch xf xc : List ℕ) : Type 0 where
  pub zones : ZoneRows R d tz st
  pub footnote : R.footnote ≡ rows_in (Groups Footnote) fo
  pub timetbls : R.timetbls ≡ rows_in Timetbls tt
  pub needs : NeedRows R ch xf xc

-- WHAT A CHANGE LEANS ON of sound tables: their rows in use are counted and their keys are unique; the hours of a zone are two digits; a delivery
-- is no longer than it may be; a block's `#` row tells its lines and stops; some slots are an index of CHANGES and of XCHANGES
abbrev pub FewDays : List ℕ → Type 0
FewDays d = span (first_day (first_of (rows_in Delivery d))) (last_day (first_of (rows_in Delivery d))) ≤ longest

pub record ZonesReady (n : StoreCounts) (d tz st : List ℕ) : Type 0 where
  pub delivery : Stored Delivery n.delivery d
  pub timezone : Stored (Groups Timezone) n.timezone tz
  pub stations : Stored (Rows Stations) n.stations st
  pub few : FewHours tz

pub record NeedReady (n : StoreCounts) (hs ch xf xc : List ℕ) : Type 0 where
  pub changes : Stored (Groups Changes) n.changes ch
  pub xfootnote : Stored (Groups Xfootnote) n.xfootnote xf
  pub xchanges : Stored (Groups Xchanges) n.xchanges xc
  pub changes_heads : Index (Groups Changes) ch n.changes (length hs) hs
  pub xchanges_heads : Index (Groups Xchanges) xc n.xchanges (length hs) hs

pub record Ready (n : StoreCounts) (hs d tz st fo tt ch xf xc : List ℕ) : Type 0 where
  pub zones : ZonesReady n d tz st
  pub footnote : Stored (Groups Footnote) n.footnote fo
  pub timetbls : Stored Timetbls n.timetbls tt
  pub blocks : BlocksTold tt
  pub needs : NeedReady n hs ch xf xc
  pub days : FewDays d

-- A TIME that was told, by rows that are those of the tables
pub record ToldOf (d tz st : List ℕ) (told : PerFile (List Row) → Option (Option Moment)) (t : Option (Option Moment)) : Type 0 where
  pub is : (R : PerFile (List Row)) → ZoneRows R d tz st → t ≡ told R
  pub few : (x : Option Moment) → t ≡ Some x → FewMinutes x
