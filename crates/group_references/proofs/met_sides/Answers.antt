-- `met_sides` meets its contract. Assumes nothing.
use Rattle.group_references.proofs.met_sides.Goals as goal

pub returns-then-met_side-2 : goal.returns-then-met_side-2
returns-then-met_side-2 c =
    rw (← c.met_side.ensures, c.if-met_side.true, ← c.met_side-then-met_side.ensures, c.if-met_side-2.true) c.names_at.ensures

pub returns-then-met_side : goal.returns-then-met_side
returns-then-met_side c =
    rw (← c.met_side.ensures, c.if-met_side.true, ← c.met_side-then-met_side.ensures, c.if-met_side-2.false)

pub returns : goal.returns
returns c = rw (← c.met_side.ensures, c.if-met_side.false)
