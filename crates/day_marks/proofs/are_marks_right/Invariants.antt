-- What is left to test is the whole. Assumes nothing.
use Rattle.day_marks.proofs.MarkLaws.{Reading}
use Rattle.day_marks.proofs.are_marks_right.Given as goal

abbrev pub invariant-loop-word : goal.invariant-loop-word
invariant-loop-word l = Reading l.row l.days l.left l.word-index
