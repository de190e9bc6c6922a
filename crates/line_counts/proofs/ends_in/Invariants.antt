-- `line_counts::ends_in` meets its contract: the ends counted and those from i on are all. Assumes nothing.
use Rattle.line_counts.proofs.EndLaws.{Running}
use Rattle.line_counts.proofs.ends_in.Given as goal

abbrev pub invariant-loop-i : goal.invariant-loop-i
invariant-loop-i l = Running l.text l.from l.to l.i l.n
