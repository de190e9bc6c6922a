-- `period_at` meets its contract: the zone is the station's own. Assumes nothing.
use mathlib.Core.Path.{refl}
use borrow.Author.Rules.{rules}
use Rattle.iff.specs.Files.{per_file}
use Rattle.iff.specs.Tables.{rows_in}
use Rattle.iff.specs.declared.RowFile.TheVariants.{Stations}
use Rattle.iff.specs.declared.File.TheVariants.{Rows}
use Rattle.day_times.proofs.DayTimeLaws.{zone_of}
use Rattle.day_times.proofs.period_at.Goals as goal

pub word_of-zone-requires : goal.word_of-zone-requires
word_of-zone-requires c =
    let a = c.args in
    (search rules, (c.find_station-row.ensures (per_file (λ f. rows_in (Rows Stations) a.stations.now)) refl).stands)

pub returns : goal.returns
returns c R z s =
    let a = c.args in
    zone_of R a.station a.number _ a.zones.now _ a.stations.now _ (c.find_station-row.ensures R s) _ c.word_of-zone.ensures z _
    c.find_period.ensures
