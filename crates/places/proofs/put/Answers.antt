-- `put` meets its contract: a slot that is told is there, and a store keeps the length. Assumes nothing.
use native.Mathlib.Omega.{arith}
use lib.ListN.{length-set}
use Rattle.places.proofs.put.Goals as goal

pub offset_bounds-places-at : goal.offset_bounds-places-at
offset_bounds-places-at c = omega (arith, c.slot_of.ensures.free _ c.in-Free.is)

pub bounds-places-at : goal.bounds-places-at
bounds-places-at c = omega (arith, c.slot_of.ensures.free _ c.in-Free.is)

pub shape_of-places-in-Free : goal.shape_of-places-in-Free
shape_of-places-in-Free c = simp length-set (omega arith)

pub returns-in-Free : goal.returns-in-Free
returns-in-Free c = simp length-set (omega arith)
