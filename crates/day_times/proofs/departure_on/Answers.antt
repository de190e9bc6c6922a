-- `departure_on` meets its contract: by the departure's own day. Assumes nothing.
use Rattle.day_times.proofs.DayTimeLaws.{own_told}
use Rattle.day_times.proofs.departure_on.Goals as goal

pub returns : goal.returns
returns c =
    let a = c.args in
    own_told a.zones.now a.stations.now a.station a.number _ _ _ c.departure_of-time.ensures c.own_day-departs.ensures _ c.time_on.ensures
