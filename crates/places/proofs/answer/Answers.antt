-- `answer` meets its contract: a slot that is told is there, and a store keeps the length. Assumes nothing.
use native.Mathlib.Omega.{arith}
use lib.ListN.{length-set}
use Rattle.places.proofs.answer.Goals as goal

pub offset_bounds-places-at : goal.offset_bounds-places-at
offset_bounds-places-at c = omega (arith, c.slot_of.ensures.of _ c.in-Of.is)

pub bounds-places-at : goal.bounds-places-at
bounds-places-at c = omega (arith, c.slot_of.ensures.of _ c.in-Of.is)

pub shape_of-places-in-Of : goal.shape_of-places-in-Of
shape_of-places-in-Of c = simp length-set (omega arith)

pub returns-in-Of : goal.returns-in-Of
returns-in-Of c = simp length-set (omega arith)
