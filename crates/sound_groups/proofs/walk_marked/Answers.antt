-- `walk_marked` meets its contract: the array of marks is as long as it was made. Assumes nothing.
use Prim.Native.Nat.{ℕ}
use mathlib.Core.Path.{sym}
use lib.ListN.{length-replicate}
use Rattle.sound_groups.proofs.walk_marked.Goals as goal

pub slice_bounds-walk_groups-end : goal.slice_bounds-walk_groups-end
slice_bounds-walk_groups-end c = sym (length-replicate {A = ℕ} 524288 0)
