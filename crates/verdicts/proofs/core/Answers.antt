-- `core` meets its contract: the pair, then the flag, then the needed time. Assumes nothing.
use mathlib.Core.Path.{◌∙◌}
use native.Mathlib.Omega.{arith}
use mir.Facts.{to_z-of_z}
use Rattle.verdicts.proofs.VerdictLaws.{pair_bars, pair_there, flag_bars, by_needed}
use Rattle.verdicts.proofs.core.Goals as goal

pub returns-then-p-eq0 : goal.returns-then-p-eq0
returns-then-p-eq0 c =
    let a = c.args in
    rw (to_z-of_z c.ranges.gap, c.in-Some.is) (pair_bars a.gap a.flag a.best a.time c.in-Some.p (omega (arith, c.if-p-eq0.true)))

pub returns-then-flag-eq0 : goal.returns-then-flag-eq0
returns-then-flag-eq0 c =
    let a = c.args in
    rw (to_z-of_z c.ranges.gap, c.in-None.is) (flag_bars a.gap a.flag a.best a.time (omega (arith, c.if-flag-eq0.true)))

pub returns-else-p-eq0 : goal.returns-else-p-eq0
returns-else-p-eq0 c =
    let a = c.args in
    rw c.in-Some.is
    (c.settled.ensures
    ∙ rw (to_z-of_z c.ranges.gap) (pair_there a.gap a.flag a.best a.time c.in-Some.p c.if-p-eq0.false))

pub returns-else-flag-eq0 : goal.returns-else-flag-eq0
returns-else-flag-eq0 c =
    let a = c.args in
    rw c.in-None.is
    (c.by_time.ensures ∙ rw (to_z-of_z c.ranges.gap) (by_needed a.gap a.flag a.best a.time c.if-flag-eq0.false))
