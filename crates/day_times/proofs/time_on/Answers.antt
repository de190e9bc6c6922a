-- `time_on` meets its contract: by the period that was found. Assumes nothing.
use Rattle.day_times.proofs.DayTimeLaws.{period_few, told_from}
use Rattle.day_times.proofs.time_on.Goals as goal

pub told_by-requires : goal.told_by-requires
told_by-requires c =
    period_few c.args.zones.now c.args.stations.now _ _ _ c.period_at-period.ensures c.requires.2

pub returns : goal.returns
returns c =
    let a = c.args in
    told_from a.zones.now a.stations.now _ _ _ c.period_at-period.ensures _ _ c.told_by.ensures
