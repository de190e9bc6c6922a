-- What is left of the limit has room for the lines that are left exactly where all fit. Assumes nothing.
use Rattle.row_sizes.proofs.SizeLaws.{Counting}
use Rattle.row_sizes.proofs.fit_one_by_one.Given as goal

abbrev pub invariant-loop-i : goal.invariant-loop-i
invariant-loop-i l = Counting l.form l.file l.t l.used l.left l.i
