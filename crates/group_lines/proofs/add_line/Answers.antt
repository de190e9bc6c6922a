-- `group_lines::add_line` meets its contract. The row to work in is as wide as the file's rows. Assumes nothing.
use mathlib.Core.Path.{sym, ◌∙◌}
use native.Mathlib.Omega.{arith}
use lib.Seq.{length-take-le}
use Rattle.group_lines.proofs.add_line.Goals as goal

pub slice_bounds-add_row-end : goal.slice_bounds-add_row-end
slice_bounds-add_row-end c = sym (length-take-le _ _ (omega (arith, c.row_width-w.ensures.few)))

pub add_row-requires : goal.add_row-requires
add_row-requires c =
    (c.requires, length-take-le _ _ (omega (arith, c.row_width-w.ensures.few)) ∙ c.row_width-w.ensures.is)
