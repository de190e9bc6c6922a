-- `met_pair` meets its contract. Assumes nothing.
use Rattle.group_references.proofs.met_pair.Goals as goal

pub returns-then-names_service : goal.returns-then-names_service
returns-then-names_service c = rw (← c.names_service.ensures, c.if-names_service.true) c.names_service-then-names_service.ensures

pub returns : goal.returns
returns c = rw (← c.names_service.ensures, c.if-names_service.false)
