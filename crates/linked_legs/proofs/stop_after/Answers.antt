-- `linked_legs::stop_after` meets its contract: its tests are the definition's, in order. Assumes nothing.
use native.Mathlib.Omega.{arith}
use Rattle.linked_legs.proofs.LinkingLaws.{after_other, after_elsewhere, after_linked}
use Rattle.linked_legs.proofs.stop_after.Goals as goal

pub returns-then-row-kind : goal.returns-then-row-kind
returns-then-row-kind c =
    let a = c.args in
    after_other a.kind a.at a.row.now c.if-row-kind.true

pub returns-then-s-at : goal.returns-then-s-at
returns-then-s-at c =
    let a = c.args in
    after_elsewhere a.kind a.at a.row.now c.if-row-kind.false _ c.span_of-s.ensures
    (λ e. omega (arith, c.if-s-at.true, e))

pub returns : goal.returns
returns c =
    let a = c.args in
    after_linked a.kind a.at a.row.now c.if-row-kind.false _ c.span_of-s.ensures
    (omega (arith, c.if-s-at.false))
