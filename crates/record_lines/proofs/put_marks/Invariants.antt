-- What is left to put are the words of the marks that are left. Assumes nothing.
use Rattle.records.proofs.VectorLaws.{Marking}
use Rattle.record_lines.proofs.put_marks.Given as goal

abbrev pub invariant-loop-i : goal.invariant-loop-i
invariant-loop-i l = Marking l.tag l.line l.initial.out l.out l.i
