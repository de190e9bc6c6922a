-- `gap_word` meets its contract: by its sign. Assumes nothing.
use mir.Facts.{to_z-of_z, Fits-nat_abs}
use Rattle.sheet_answers.proofs.SignLaws.{tested, difference_fits, is_number, far_enough, told_below, at_least_zero, told_above}
use Rattle.sheet_answers.proofs.gap_word.Goals as goal

pub overflow_sub-result : goal.overflow_sub-result
overflow_sub-result c = difference_fits c.args.gap c.ranges.gap (tested c.args.gap _ c.ranges.gap c.if-gap-lt0.true)

pub overflow_cast-result : goal.overflow_cast-result
overflow_cast-result c = is_number c.args.gap c.ranges.gap (tested c.args.gap _ c.ranges.gap c.if-gap-lt0.true)

pub overflow_sub-result-then-gap-lt0 : goal.overflow_sub-result-then-gap-lt0
overflow_sub-result-then-gap-lt0 c = far_enough c.args.gap c.ranges.gap (tested c.args.gap _ c.ranges.gap c.if-gap-lt0.true)

pub returns-then-gap-lt0 : goal.returns-then-gap-lt0
returns-then-gap-lt0 c = told_below c.args.gap c.ranges.gap (tested c.args.gap _ c.ranges.gap c.if-gap-lt0.true)

pub overflow_cast-result-2 : goal.overflow_cast-result-2
overflow_cast-result-2 c =
    rw (to_z-of_z c.ranges.gap) (at_least_zero c.args.gap (tested c.args.gap _ c.ranges.gap c.if-gap-lt0.false), Fits-nat_abs tt c.ranges.gap)

pub returns : goal.returns
returns c =
    rw (to_z-of_z c.ranges.gap) (told_above c.args.gap (tested c.args.gap _ c.ranges.gap c.if-gap-lt0.false))
