-- No row's line is longer than the longest, so that so many of them fit. Assumes nothing.
use mathlib.Core.Path.{refl}
use Rattle.row_sizes.proofs.SizeLaws.{few_fit, none_few}
use Rattle.row_sizes.proofs.are_few.Goals as goal

pub returns : goal.returns
returns c =
    let a = c.args in
    few_fit a.form a.file a.used c.longest_line-longest.result c.longest_line-longest.ensures _ refl

pub returns-then-longest-gt-LONGEST_FILE : goal.returns-then-longest-gt-LONGEST_FILE
returns-then-longest-gt-LONGEST_FILE c = none_few _ _ _
