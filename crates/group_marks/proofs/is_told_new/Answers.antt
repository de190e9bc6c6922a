-- `group_marks::is_told_new` meets its contract: a row whose number has no mark is new. Assumes nothing.
use mathlib.Core.Bool.{false≢true}
use Rattle.group_marks.proofs.NumberLaws.{told_new}
use Rattle.group_marks.proofs.is_told_new.Goals as goal

pub returns : goal.returns
returns c keys rows m e =
    let a = c.args in
    told_new a.file a.from keys rows a.row.now a.marks.now _ c.number_in-number.ensures c.if-marks-ne524288.false
    (λ ns k. c.is_unmarked.ensures ns k e) m

pub returns-then-marks-ne524288 : goal.returns-then-marks-ne524288
returns-then-marks-ne524288 c keys rows m e = absurd (false≢true e)
