-- `find_station` meets its contract: no two rows name one station, so the row that is found is the first. Assumes nothing.
use Rattle.store.proofs.FirstLaws.{station_found}
use Rattle.store.proofs.find_station.Goals as goal

pub returns : goal.returns
returns c =
    station_found c.args.used c.args.t.now c.requires c.args.key _ c.find_at.ensures
