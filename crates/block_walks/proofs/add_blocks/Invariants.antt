-- `block_walks::add_blocks` meets its contract: the blocks left say what all blocks were to say. Assumes nothing.
use Prim.Native.Nat.{◌-◌}
use lib.ListN.{length}
use Rattle.block_walks.proofs.AddLaws.{Adding}
use Rattle.block_walks.proofs.add_blocks.Given as goal

abbrev pub invariant-loop-at : goal.invariant-loop-at
invariant-loop-at l =
    Adding l.form l.text l.from l.counts l.companies l.modes l.stations l.footnotes l.initial.t l.t l.marks l.at l.row l.done l.run l.search l.sure

abbrev pub decreases-loop-at : goal.decreases-loop-at
decreases-loop-at l =
    length l.text - l.at
