-- What is left to put are the words of the marks that are left. Assumes nothing.
use lib.ListN.{length}
use Rattle.records.proofs.VectorLaws.{mark_begin, mark_on, mark_end}
use Rattle.records.proofs.RowLaws.{cleared_length}
use Rattle.record_lines.proofs.put_marks.Goals as goal

pub loop-i-init : goal.loop-i-init
loop-i-init c =
    mark_begin _ _ (length c.args.out.now) _ c.requires.1 c.clear.ensures

pub loop-i-preserved : goal.loop-i-preserved
loop-i-preserved c =
    mark_on _ _ _ _ _ c.loop-i-test.true c.loop-i.invariant _ c.marks_at.ensures

pub returns : goal.returns
returns c =
    mark_end _ _ _ _ _ c.loop-i-test.false c.loop-i.invariant _
    (cleared_length (length c.args.out.now) _ _ c.clear.ensures)
