-- `block_ends::hop_over` meets its contract: each line that is hopped over ends in CR LF, and begins no block. Assumes nothing.
use Prim.Native.Nat.{◌-◌}
use lib.ListN.{length}
use Rattle.block_ends.proofs.HopLaws.{Hopping}
use Rattle.block_ends.proofs.hop_over.Given as goal

abbrev pub invariant-loop-at : goal.invariant-loop-at
invariant-loop-at l = Hopping l.text l.from l.at l.lines l.stops

abbrev pub decreases-loop-at : goal.decreases-loop-at
decreases-loop-at l = length l.text - l.at
