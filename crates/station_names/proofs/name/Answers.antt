-- `station_names::name` meets its contract: the part between its bounds. Assumes nothing.
use Rattle.station_names.proofs.NameLaws.{name_holds}
use Rattle.station_names.proofs.name.Goals as goal

pub returns : goal.returns
returns c =
    let a = c.args in
    rw c.name_part-part.ensures.0 (name_holds a.stations.now a.short)
