-- `core_change` meets its contract: one service on one day, and then the rest. Assumes nothing.
use mathlib.Core.Path.{sym, ◌∙◌}
use Rattle.changing.proofs.CoreLaws.{one_service, two_services}
use Rattle.changing.proofs.core_change.Goals as goal

pub returns-then-is_same : goal.returns-then-is_same
returns-then-is_same c R w =
    let a = c.args in
    one_service R a.from a.to (sym c.is_same.ensures ∙ c.if-is_same.true)

pub returns : goal.returns
returns c R w =
    let a = c.args in
    c.later_change.ensures R w ∙ two_services R a.from a.to (sym c.is_same.ensures ∙ c.if-is_same.false)

pub later_change-requires : goal.later_change-requires
later_change-requires c = c.requires
