-- `file_rows::read_rows` meets its contract: the rows that were counted name what the tables name. Assumes nothing.
use Rattle.references.specs.Agree.{StationKeys, StationKeysAmong}
use Rattle.file_rows.proofs.WholeLaws.{for_fewer}
use Rattle.file_rows.proofs.read_rows.Goals as goal

pub returns-then-text-long_from : goal.returns-then-text-long_from
returns-then-text-long_from c =
    let a = c.args in
    for_fewer a.file a.form (λ k. StationKeysAmong k c.count_for_stations-counts.result a.countries.now a.zones.now)
    (λ k. StationKeys k a.countries.now a.zones.now) a.text.now a.from a.t.now _ _ c.count_for_stations-counts.ensures
    c.read_short.ensures

pub returns-then-names_others : goal.returns-then-names_others
returns-then-names_others c =
    let a = c.args in
    for_fewer a.file a.form (λ k. StationKeysAmong k c.count_for_stations-counts.result a.countries.now a.zones.now)
    (λ k. StationKeys k a.countries.now a.zones.now) a.text.now a.from a.t.now _ _ c.count_for_stations-counts.ensures
    c.read_indexed.ensures

pub returns : goal.returns
returns c =
    let a = c.args in
    for_fewer a.file a.form (λ k. StationKeysAmong k c.count_for_stations-counts.result a.countries.now a.zones.now)
    (λ k. StationKeys k a.countries.now a.zones.now) a.text.now a.from a.t.now _ _ c.count_for_stations-counts.ensures
    c.read_marked.ensures
