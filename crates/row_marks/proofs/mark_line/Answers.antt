-- `row_marks::mark_line` meets its contract. Assumes nothing.
use Rattle.row_marks.proofs.RememberLaws.{line_marked, nothing_marked}
use Rattle.row_marks.proofs.mark_line.Goals as goal

pub returns-then-marks-eq-MARKS : goal.returns-then-marks-eq-MARKS
returns-then-marks-eq-MARKS c =
    let a = c.args in
    line_marked a.file a.line.now a.key a.marks.now _ _ _ c.if-marks-eq-MARKS.true c.spread.ensures c.mark.ensures
    c.mark_texts.ensures

pub returns-else-marks-eq-MARKS : goal.returns-else-marks-eq-MARKS
returns-else-marks-eq-MARKS c =
    let a = c.args in
    nothing_marked a.file a.line.now a.key a.marks.now c.if-marks-eq-MARKS.false
