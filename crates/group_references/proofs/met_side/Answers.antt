-- `met_side` meets its contract. Assumes nothing.
use Rattle.group_references.proofs.met_side.Goals as goal

pub returns-then-met_company : goal.returns-then-met_company
returns-then-met_company c = rw (← c.met_company.ensures, c.if-met_company.true) c.met_mode.ensures

pub returns : goal.returns
returns c = rw (← c.met_company.ensures, c.if-met_company.false)
