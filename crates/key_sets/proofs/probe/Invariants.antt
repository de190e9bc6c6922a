-- `probe` meets its contract: each slot that is passed is neither free nor holds the key. Assumes nothing.
use Prim.Native.Nat.{◌≤◌}
use Rattle.key_sets.specs.Sets.{NoneFree, Others}
use Rattle.key_sets.proofs.probe.Given as goal

abbrev pub invariant-loop-at : goal.invariant-loop-at
invariant-loop-at l = (l.from ≤ l.at) × (NoneFree l.set l.from l.at × Others l.set l.key l.from l.at)
