-- A line of a group is its `#` or is not. Assumes nothing.
use mathlib.Core.Path.{ap}
use native.Mathlib.Omega.{arith}
use Rattle.row_sizes.proofs.LineLaws.{line_length, in_group_lem}
use Rattle.row_sizes.proofs.longest_in_group.Goals as goal

pub returns : goal.returns
returns c =
    let a = c.args in
    in_group_lem a.form _ a.file
    (omega (arith, c.larger.ensures.0, c.record_length-head.ensures, ap (line_length a.form) c.group_record.ensures))
    (omega (arith, c.larger.ensures.1, c.record_length-other.ensures, ap (line_length a.form) c.group_record-2.ensures))
