-- What is left to test is the whole. Assumes nothing.
use Rattle.record_lines.proofs.ColumnLaws.{Testing}
use Rattle.record_lines.proofs.are_fields_right.Given as goal

abbrev pub invariant-loop-j : goal.invariant-loop-j
invariant-loop-j l = Testing l.line l.first l.end l.j
