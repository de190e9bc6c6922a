-- `linked_legs::are_linked` meets its contract: what is left, from the stop come to, is the whole. Assumes nothing.
use mathlib.Core.Path.{sym, ◌∙◌}
use Rattle.linked_legs.proofs.LinkingLaws.{linked_none, linked_not, linked_on}
use Rattle.linked_legs.proofs.are_linked.Goals as goal

pub returns-then-at-eq0 : goal.returns-then-at-eq0
returns-then-at-eq0 c =
    let a = c.args in
    sym
    (c.loop-i.invariant
    ∙ linked_not a.kind a.n a.t.now c.loop-i.i a.to c.loop-i.at c.loop-i-test.true _ c.stop_after_at-at.ensures c.if-at-eq0.true)

pub loop-i-preserved : goal.loop-i-preserved
loop-i-preserved c =
    let a = c.args in
    c.loop-i.invariant
    ∙ linked_on a.kind a.n a.t.now c.loop-i.i a.to c.loop-i.at c.loop-i-test.true _ c.stop_after_at-at.ensures c.if-at-eq0.false

pub returns : goal.returns
returns c =
    let a = c.args in
    sym (c.loop-i.invariant ∙ linked_none a.kind a.n a.t.now c.loop-i.i a.to c.loop-i.at c.loop-i-test.false)
