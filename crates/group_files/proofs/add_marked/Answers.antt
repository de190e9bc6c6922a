-- `group_files::add_marked` meets its contract: the array is as long as it was made. Assumes nothing.
use Prim.Native.Nat.{ℕ}
use mathlib.Core.Path.{sym}
use lib.ListN.{length-replicate}
use Rattle.group_files.proofs.add_marked.Goals as goal

pub slice_bounds-add_lines-end : goal.slice_bounds-add_lines-end
slice_bounds-add_lines-end c = sym (length-replicate {A = ℕ} 524288 0)
