-- `station_names::name_test` meets its contract. Assumes nothing.
use Rattle.station_names.proofs.NameLaws.{name_tested}
use Rattle.station_names.proofs.name_test.Goals as goal

pub returns : goal.returns
returns c =
    let a = c.args in
    rw c.name_part-part.ensures.0 (name_tested a.stations.now a.short)
