-- The period of a station's zone, and a time by the period of its own day. Assumes nothing.
use Rattle.std.specs.Prelude.{Option}
use Prim.Native.Nat.{ℕ, ◌+◌, ◌<◌}
use mathlib.Core.Path.{◌≡◌, refl}
use mathlib.Core.List.{List, []}
use Rattle.iff.specs.Files.{PerFile, eleven}
use Rattle.iff.specs.Tables.{Row, row_width, rows_in}
use Rattle.iff.specs.Times.{minutes_of}
use Rattle.iff.specs.Words.{hours, station_zone}
use Rattle.iff.specs.declared.RowFile.TheVariants.{Stations}
use Rattle.iff.specs.declared.GroupFile.TheVariants.{Timezone}
use Rattle.iff.specs.declared.File.TheVariants.{Rows, Groups}
use Rattle.iff_desk.specs.Store.{station_row, period_of, period_at}
use Rattle.iff_desk.specs.Stops.{days_later, told_by, told_on}
use Rattle.store.specs.Found.{row_or, Stands, RowFor}
use Rattle.zone_times.specs.Clocks.{ToldFor}
use Rattle.day_times.specs.Told.{FewHours, ToldFrom}
use Rattle.iff_desk.specs.declared.Moment.{Moment}

-- the zone by the row of the station
pub zone_of : (R : PerFile (List Row)) (station number w : ℕ) (zones : List ℕ) (v : ℕ) (stations : List ℕ) (o : Option ℕ)
    → RowFor v stations (station_row R station) o → (zone : ℕ) → zone ≡ station_zone (row_or v stations o)
    → R.timezone ≡ rows_in (Groups Timezone) zones → (p : Option ℕ) → RowFor w zones (period_of (rows_in (Groups Timezone) zones) zone number) p
    → RowFor w zones (period_at R station number) p
zone_of R station number w zones v stations o h zone e z p f = rw (h.is, ← e, z) f

-- THE PERIOD THAT WAS FOUND
module _ (zones stations : List ℕ) (station number : ℕ) (o : Option ℕ)
    (p : (R : PerFile (List Row)) → R.timezone ≡ rows_in (Groups Timezone) zones → R.stations ≡ rows_in (Rows Stations) stations
    → RowFor (row_width (Groups Timezone)) zones (period_at R station number) o) where
  -- it has few hours
  pub period_few : FewHours zones → Stands (row_width (Groups Timezone)) zones o × (hours (row_or (row_width (Groups Timezone)) zones o) < 100)
  period_few few =
      let R = eleven [] [] [] [] (rows_in (Groups Timezone) zones) (rows_in (Rows Stations) stations) [] [] [] [] [] in
      let h = p R refl refl in
      (h.stands, rw (← h.is) (few (station_zone (station_row R station)) number))

  -- and tells the time
  pub told_from : (time : ℕ) (t : Option (Option Moment)) → ToldFor (row_or (row_width (Groups Timezone)) zones o) time t
      → ToldFrom zones stations (λ R. told_by (period_at R station number) (minutes_of time)) t
  told_from time t f = record { is = λ R z s. rw (p R z s).is f.is; few = f.few }

-- A TIME'S OWN DAY
pub own_told : (zones stations : List ℕ) (station number day time written : ℕ) → time ≡ written
    → day ≡ number + days_later (minutes_of time) → (t : Option (Option Moment))
    → ToldFrom zones stations (λ R. told_by (period_at R station day) (minutes_of time)) t → ToldFrom zones stations (λ R. told_on R station number written) t
unfolding told_on
own_told zones stations station number day time written e d t f = record { is = λ R z s. rw (← e, ← d) (f.is R z s); few = f.few }
