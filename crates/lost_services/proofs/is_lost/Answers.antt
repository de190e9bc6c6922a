-- `is_lost` meets its contract: where the slots say so, no row names the service. Assumes nothing.
use mathlib.Core.Bool.{false≢true}
use Rattle.iff.specs.declared.File.TheVariants.{Timetbls}
use Rattle.store.proofs.FirstLaws.{used_fits}
use Rattle.lost_services.proofs.LostLaws.{no_rows}
use Rattle.lost_services.proofs.is_lost.Goals as goal

pub is_absent-requires : goal.is_absent-requires
is_absent-requires c =
    let a = c.args in
    (c.requires.1 c.if-services_told.true, used_fits Timetbls a.used a.timetbls.now c.requires.0)

pub returns-then-services_told : goal.returns-then-services_told
returns-then-services_told c lost =
    let a = c.args in
    no_rows a.used a.timetbls.now c.requires.0 a.service (c.is_absent.ensures lost)

pub returns : goal.returns
returns c lost = absurd (false≢true lost)
