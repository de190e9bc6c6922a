-- `block_ends::seek_head` meets its contract: no line after the first begins with `#` so far. Assumes nothing.
use Prim.Native.Nat.{◌-◌}
use lib.ListN.{length}
use Rattle.block_ends.proofs.PartLaws.{Seeking}
use Rattle.block_ends.proofs.seek_head.Given as goal

abbrev pub invariant-loop-at : goal.invariant-loop-at
invariant-loop-at l = Seeking l.text l.from l.at

abbrev pub decreases-loop-at : goal.decreases-loop-at
decreases-loop-at l = length l.text - l.at
