-- `best_with` meets its contract: a row that does not apply changes nothing. Assumes nothing.
use Rattle.exception_rows.proofs.best_with.Goals as goal

pub returns-then-applies : goal.returns-then-applies
returns-then-applies c = rw (← c.applies.ensures, c.if-applies.true) c.weighed.ensures

pub returns : goal.returns
returns c = rw (← c.applies.ensures, c.if-applies.false)
