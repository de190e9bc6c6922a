-- `best_for` meets its contract: A on leg i - 1 and B on leg j. Assumes nothing.
use mathlib.Core.Path.{◌≡◌, ap, ◌∙◌}
use Rattle.iff_desk.specs.Changing.{riding_on, best_at}
use Rattle.needed_times.specs.Needed.{rows_found}
use Rattle.needed_times.proofs.NeededLaws.{same_best}
use Rattle.needed_times.proofs.best_for.Goals as goal

pub returns : goal.returns
returns c R f e =
    let a = c.args in
    let found : c.best_at.result ≡ best_at R a.a.station c.riding_on-riding.result c.riding_on-next.result a.from.day = c.best_at.ensures R e f in
    found
    ∙ same_best R a.a.station a.from.day c.riding_on-riding.result _ c.riding_on-next.result _
    (c.riding_on-riding.ensures ∙ ap (riding_on (rows_found a.timetbls.now a.a)) c.leg_before-leg.ensures) c.riding_on-next.ensures
