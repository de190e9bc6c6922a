-- `file_rows::read_marked` meets its contract: before the first line nothing is marked. Assumes nothing.
use mathlib.Core.Path.{sym}
use lib.ListN.{length-replicate}
use Prim.Native.Nat.{ℕ}
use Rattle.marks.proofs.MarkLaws.{none_marked}
use Rattle.file_rows.proofs.read_marked.Goals as goal

pub add_rows-requires : goal.add_rows-requires
add_rows-requires c = (c.requires, λ wide. none_marked)

pub slice_bounds-add_rows-end : goal.slice_bounds-add_rows-end
slice_bounds-add_rows-end c = sym (length-replicate {A = ℕ} 524288 0)
