-- `clock_time` meets its contract: a time's minutes are few, and the zone rule alone leaves the zone's clock. Assumes nothing.
use mathlib.Core.Path.{sym, ◌∙◌}
use Rattle.clock.proofs.MinuteLaws.{minutes_small}
use Rattle.zone_times.proofs.clock_time.Goals as goal

pub local_of-local-requires : goal.local_of-local-requires
local_of-local-requires c =
    minutes_small c.args.time _ (sym c.minutes_of.ensures ∙ c.in_ok-minutes.was)
