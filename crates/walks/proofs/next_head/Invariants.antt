-- `next_head` meets its contract: the rows that were passed begin no group. Assumes nothing.
use Rattle.walks.proofs.GroupLaws.{Passed}
use Rattle.walks.proofs.next_head.Given as goal

abbrev pub invariant-loop-i : goal.invariant-loop-i
invariant-loop-i l = Passed l.w l.t l.from l.to l.i
