-- `weighed` meets its contract: the gap, and the verdict on it. Assumes nothing.
use mathlib.Core.Path.{ap, ◌∙◌}
use borrow.Author.Rules.{rules}
use lib.IntN.{ℤ}
use mir.Facts.{to_z-of_z}
use Rattle.needed_times.specs.Needed.{rows_found, verdict_on}
use mir.Syntax.{w32}
use Rattle.changing.proofs.weighed.Goals as goal

pub returns : goal.returns
returns c R e f g h =
    let a = c.args in
    c.by_needed.ensures R e f g h
    ∙ ap (λ (z : ℤ). verdict_on R z (rows_found a.timetbls.now a.a) (rows_found a.timetbls.now a.b) a.a.station a.from a.to)
    (to_z-of_z {w = w32} {z = c.gap_of-gap.result} (search rules) ∙ c.gap_of-gap.ensures)
