-- `told_by` meets its contract: by the period's own sign and hours, where it is there. Assumes nothing.
use Rattle.zone_times.proofs.ClockLaws.{told_for}
use Rattle.zone_times.proofs.told_by.Goals as goal

pub clock_time-requires : goal.clock_time-requires
clock_time-requires c = rw c.word_of-hours.ensures c.requires.1

pub returns : goal.returns
returns c =
    told_for _ _ _ _ _ _ c.word_of-tag.ensures c.word_of-hours.ensures c.clock_time.ensures c.told_if.ensures
