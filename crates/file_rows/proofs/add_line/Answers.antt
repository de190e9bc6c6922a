-- `file_rows::add_line` meets its contract: the row is a local one. Assumes nothing.
use Prim.Native.Nat.{◌≤◌}
use mathlib.Core.Path.{sym, ◌∙◌}
use native.Mathlib.Omega.{arith}
use lib.ListN.{replicate}
use lib.Seq.{length-take-le}
use Rattle.file_rows.proofs.add_line.Goals as goal

pub add_row-requires : goal.add_row-requires
add_row-requires c =
    let few : c.row_width-w.result ≤ 14 = omega (arith, c.row_width-w.ensures.few) in (
      length-take-le c.row_width-w.result (replicate 14 0) few ∙ c.row_width-w.ensures.is,
      c.requires,
    )

pub slice_bounds-row-end : goal.slice_bounds-row-end
slice_bounds-row-end c = omega (arith, c.row_width-w.ensures.few)

pub slice_bounds-add_row-end : goal.slice_bounds-add_row-end
slice_bounds-add_row-end c = sym (length-take-le c.row_width-w.result (replicate 14 0) (omega (arith, c.row_width-w.ensures.few)))

pub shape_of-t : goal.shape_of-t
shape_of-t c = c.add_row.ensures.kept

pub returns : goal.returns
returns c = c.add_row.ensures
