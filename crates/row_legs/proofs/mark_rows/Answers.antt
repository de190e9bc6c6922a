-- `row_legs::mark_rows` meets its contract: the marks set and those that the rows left will set are all. Assumes nothing.
use borrow.Author.Tests.{not-true, not-false}
use Rattle.row_legs.proofs.WalkLaws.{markable, marked_twice, marked_next, all_marked}
use Rattle.row_legs.proofs.mark_rows.Goals as goal

pub mark_at-requires : goal.mark_at-requires
mark_at-requires c =
    let a = c.args in
    markable a.t.now a.marks.now c.loop-i.marks a.from a.to a.n a.kind c.loop-i.i c.loop-i-test.true c.loop-i.invariant c.requires

pub returns-then-not-mark_at : goal.returns-then-not-mark_at
returns-then-not-mark_at c =
    let a = c.args in
    marked_twice a.t.now a.marks.now c.loop-i.marks a.from a.to a.n a.kind c.loop-i.i c.loop-i-test.true c.loop-i.invariant
    _ _ c.mark_at.ensures (not-true _ c.if-not-mark_at.true-raw)

pub loop-i-preserved : goal.loop-i-preserved
loop-i-preserved c =
    let a = c.args in
    marked_next a.t.now a.marks.now c.loop-i.marks a.from a.to a.n a.kind c.loop-i.i c.loop-i-test.true c.loop-i.invariant
    _ _ c.mark_at.ensures (not-false _ c.if-not-mark_at.false-raw) c.mark_at.auto.marks

pub returns : goal.returns
returns c =
    let a = c.args in
    all_marked a.t.now a.marks.now c.loop-i.marks a.from a.to a.n a.kind c.loop-i.i c.loop-i-test.false c.loop-i.invariant
