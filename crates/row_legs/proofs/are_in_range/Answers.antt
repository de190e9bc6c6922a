-- `row_legs::are_in_range` meets its contract: what is left to ask is the whole. Assumes nothing.
use mathlib.Core.Path.{sym, ◌∙◌}
use borrow.Author.Tests.{not-true, not-false}
use Rattle.iff_rules.specs.Legs.{reach_of, in_range}
use Rattle.linked_legs.proofs.RowLaws.{all_none, all_not, all_on}
use Rattle.row_legs.proofs.are_in_range.Goals as goal

pub returns-then-not-in_range_at : goal.returns-then-not-in_range_at
returns-then-not-in_range_at c =
    let a = c.args in
    sym
    (c.loop-i.invariant
    ∙ all_not (in_range reach_of a.n) a.t.now c.loop-i.i a.to c.loop-i-test.true _ c.in_range_at.ensures
    (not-true _ c.if-not-in_range_at.true-raw))

pub loop-i-preserved : goal.loop-i-preserved
loop-i-preserved c =
    let a = c.args in
    c.loop-i.invariant
    ∙ all_on (in_range reach_of a.n) a.t.now c.loop-i.i a.to c.loop-i-test.true _ c.in_range_at.ensures
    (not-false _ c.if-not-in_range_at.false-raw)

pub returns : goal.returns
returns c =
    let a = c.args in
    sym (c.loop-i.invariant ∙ all_none (in_range reach_of a.n) a.t.now c.loop-i.i a.to c.loop-i-test.false)
