-- `settled` meets its contract: a gap that is too short, and then a needed time that is no reading. Assumes nothing.
use mathlib.Core.Path.{sym, ◌∙◌}
use mir.Facts.{to_z-of_z}
use Rattle.verdicts.proofs.VerdictLaws.{too_short, not_settled, long_enough}
use Rattle.verdicts.proofs.settled.Goals as goal

pub returns-then-is_short : goal.returns-then-is_short
returns-then-is_short c =
    let a = c.args in
    let e = rw (to_z-of_z c.ranges.gap) at c.is_short.ensures in
    rw (to_z-of_z c.ranges.gap) (sym (too_short a.gap a.source a.needed a.at_top (sym e ∙ c.if-is_short.true)))

pub returns-then-at_top : goal.returns-then-at_top
returns-then-at_top c =
    let a = c.args in
    let e = rw (to_z-of_z c.ranges.gap) at c.is_short.ensures in
    rw (to_z-of_z c.ranges.gap, c.if-at_top.true) (sym (not_settled a.gap a.source a.needed (sym e ∙ c.if-is_short.false)))

pub returns : goal.returns
returns c =
    let a = c.args in
    let e = rw (to_z-of_z c.ranges.gap) at c.is_short.ensures in
    rw (to_z-of_z c.ranges.gap, c.if-at_top.false) (sym (long_enough a.gap a.source a.needed (sym e ∙ c.if-is_short.false)))
