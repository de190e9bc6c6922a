-- A time that was told by the rows of two lent tables, TIMEZONE and STATIONS, and the hours of periods that the zone rule asks for.
use Rattle.std.specs.Prelude.{ℕ, ◌<◌, ◌≡◌, List, Option, Some}
use Rattle.iff.specs.Files.{PerFile}
use Rattle.iff.specs.Tables.{Row, rows_in}
use Rattle.iff.specs.Words.{hours}
use Rattle.iff.specs.declared.RowFile.TheVariants.{Stations}
use Rattle.iff.specs.declared.GroupFile.TheVariants.{Timezone}
use Rattle.iff.specs.declared.File.TheVariants.{Rows, Groups}
use Rattle.iff_desk.specs.Store.{period_of}
use Rattle.zone_times.specs.Clocks.{FewMinutes}
use Rattle.iff_desk.specs.declared.Moment.{Moment}

-- the hours of every period that is found have two digits
abbrev pub FewHours : List ℕ → Type 0
FewHours t = (zone day : ℕ) → hours (period_of (rows_in (Groups Timezone) t) zone day) < 100

-- what rows that are those of the tables tell, with the range that a gap asks for
pub record ToldFrom (zones stations : List ℕ) (told : PerFile (List Row) → Option (Option Moment)) (t : Option (Option Moment)) : Type 0 where
  pub is : (R : PerFile (List Row)) → R.timezone ≡ rows_in (Groups Timezone) zones → R.stations ≡ rows_in (Rows Stations) stations → t ≡ told R
  pub few : (x : Option Moment) → t ≡ Some x → FewMinutes x
