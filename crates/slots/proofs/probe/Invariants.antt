-- `probe` meets its contract: each slot that is passed is neither free nor a row of the key. Assumes nothing.
use Prim.Native.Nat.{◌≤◌}
use Rattle.slots.specs.Slots.{AllPassed}
use Rattle.slots.proofs.probe.Given as goal

abbrev pub invariant-loop-at : goal.invariant-loop-at
invariant-loop-at l = (l.from ≤ l.at) × AllPassed l.w l.tag l.col l.t l.i l.key l.places l.from l.at
