-- `block_legs::mark_lines` meets its contract: the marks set and those that the lines left will set are all. Assumes nothing.
use Rattle.block_legs.proofs.LineLaws.{markable, marked_here, marked_next, marked_lines}
use Rattle.block_legs.proofs.mark_lines.Goals as goal

pub mark_line-requires : goal.mark_line-requires
mark_line-requires c =
    let a = c.args in
    markable a.form a.block.now a.marks.now c.loop-line.marks a.n a.kind _ _ _ c.in-Some.ensures.steps c.requires c.loop-line.invariant

pub returns-then-not-mark_line : goal.returns-then-not-mark_line
returns-then-not-mark_line c =
    marked_here _ _ _ _ _ _ _ _ _ _ _ c.in-Some.ensures.steps c.loop-line.invariant c.mark_line.ensures c.if-not-mark_line.true

pub loop-line-preserved : goal.loop-line-preserved
loop-line-preserved c =
    marked_next _ _ _ _ _ _ _ _ _ _ _ c.in-Some.ensures.steps c.loop-line.invariant c.mark_line.ensures c.if-not-mark_line.false
    c.mark_line.auto.marks

pub returns : goal.returns
returns c = marked_lines _ _ _ _ _ _ _ c.in-None.ensures.steps.0 c.loop-line.invariant
