-- `row_count` meets its contract: i rows are counted, and those that are left. Assumes nothing.
use Rattle.tables.proofs.Rest.{Counted}
use Rattle.tables.proofs.row_count.Given as goal

abbrev pub invariant-loop-i : goal.invariant-loop-i
invariant-loop-i l = Counted l.w l.rows l.t l.i
