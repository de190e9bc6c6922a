-- `met_station` meets its contract. Assumes nothing.
use mathlib.Core.Path.{◌≡◌}
use Rattle.iff.specs.Lists.{has}
use Rattle.iff.specs.Words.{station_country}
use Rattle.iff.specs.declared.RowFile.TheVariants.{Country}
use Rattle.iff.specs.declared.File.TheVariants.{Rows}
use Rattle.iff_rules.specs.References.{met_by_row}
use Rattle.keys.specs.Lookup.{keys_among}
use Rattle.row_references.proofs.met_station.Goals as goal

pub returns-then-names_at : goal.returns-then-names_at
unfolding met_by_row
returns-then-names_at c k a =
    let country : c.names_at.result
    ≡ has (station_country c.args.row.now) (keys_among (Rows Country) c.args.counts.countries c.args.countries.now) = c.names_at.ensures in
    rw (a.countries, a.zones, ← country, c.if-names_at.true) c.names_at-then-names_at.ensures

pub returns : goal.returns
unfolding met_by_row
returns c k a =
    let country : c.names_at.result
    ≡ has (station_country c.args.row.now) (keys_among (Rows Country) c.args.counts.countries c.args.countries.now) = c.names_at.ensures in
    rw (a.countries, ← country, c.if-names_at.false)
