-- `arrival_on` meets its contract: by the arrival's own day. Assumes nothing.
use Rattle.day_times.proofs.DayTimeLaws.{own_told}
use Rattle.day_times.proofs.arrival_on.Goals as goal

pub returns : goal.returns
returns c =
    let a = c.args in
    own_told a.zones.now a.stations.now a.station a.number _ _ _ c.arrival_of-time.ensures c.own_day-arrives.ensures _ c.time_on.ensures
