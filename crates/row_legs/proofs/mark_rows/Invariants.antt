-- `row_legs::mark_rows` meets its contract: the marks set and those that the rows left will set are all. Assumes nothing.
use Rattle.row_legs.proofs.WalkLaws.{MarkingRows}
use Rattle.row_legs.proofs.mark_rows.Given as goal

abbrev pub invariant-loop-i : goal.invariant-loop-i
invariant-loop-i l = MarkingRows l.t l.initial.marks l.marks l.from l.to l.n l.kind l.i
