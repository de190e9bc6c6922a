-- `leg_marks::mark_legs` meets its contract: the legs from `first` up to `leg` have a mark more. Assumes nothing.
use Rattle.leg_marks.proofs.MarkLaws.{Marking}
use Rattle.leg_marks.proofs.mark_legs.Given as goal

abbrev pub invariant-loop-leg : goal.invariant-loop-leg
invariant-loop-leg l = Marking l.initial.marks l.marks l.first l.last l.leg
