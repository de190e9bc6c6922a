-- `found_by_blocks` meets its contract: the row that is found was tested, and is one of the first rows. Assumes nothing.
use Prim.Native.Nat.{◌-◌, ◌<◌}
use Rattle.lookups.proofs.found_by_blocks.Given as goal

abbrev pub invariant-loop-i : goal.invariant-loop-i
invariant-loop-i l = 0 < l.i

abbrev pub decreases-loop-i : goal.decreases-loop-i
decreases-loop-i l = l.rows - l.i
