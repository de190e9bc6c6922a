-- `count_services` meets its contract: the rows read, those of them that begin a block, and those that are left. Assumes nothing.
use Rattle.fresh_keys.proofs.CountLaws.{Reading}
use Rattle.fresh_keys.proofs.count_services.Given as goal

abbrev pub invariant-loop-i : goal.invariant-loop-i
invariant-loop-i l = Reading l.t l.rows l.count l.i
