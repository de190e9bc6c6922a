-- `group_marks::remember` meets its contract: the row's number is marked, where there are marks. Assumes nothing.
use Rattle.group_marks.proofs.NumberLaws.{row_marked, row_unmarked}
use Rattle.group_marks.proofs.remember.Goals as goal

pub returns-then-marks-eq524288 : goal.returns-then-marks-eq524288
returns-then-marks-eq524288 c =
    let a = c.args in
    row_marked a.file a.from a.row.now a.marks.now _ _ c.if-marks-eq524288.true c.number_in-number.ensures c.mark.ensures

pub returns-else-marks-eq524288 : goal.returns-else-marks-eq524288
returns-else-marks-eq524288 c =
    let a = c.args in
    row_unmarked a.file a.from a.row.now a.marks.now c.if-marks-eq524288.false
