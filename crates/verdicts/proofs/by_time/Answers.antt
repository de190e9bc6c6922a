-- `by_time` meets its contract: 999 of an exception and 99 of a station are no readings. Assumes nothing.
use mathlib.Core.Path.{◌∙◌}
use mir.Facts.{to_z-of_z}
use Rattle.verdicts.proofs.VerdictLaws.{by_exception, by_station}
use Rattle.verdicts.proofs.by_time.Goals as goal

pub returns-in-Some : goal.returns-in-Some
returns-in-Some c =
    rw c.in-Some.is
    (c.settled.ensures
    ∙ rw (to_z-of_z c.ranges.gap) (by_exception c.args.gap c.in-Some.best.rank c.in-Some.best.time c.args.time))

pub returns-in-None : goal.returns-in-None
returns-in-None c =
    rw c.in-None.is
    (c.settled-in-None.ensures ∙ rw (to_z-of_z c.ranges.gap) (by_station c.args.gap c.args.time))
