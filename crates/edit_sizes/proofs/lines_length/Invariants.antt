-- The bytes so far and those of the rows left are all. Assumes nothing.
use Rattle.edit_sizes.proofs.EditLaws.{Adding}
use Rattle.edit_sizes.proofs.lines_length.Given as goal

abbrev pub invariant-loop-i : goal.invariant-loop-i
invariant-loop-i l = Adding l.form l.t l.from l.to l.bytes l.i
