-- `group_order::is_only_vector` meets its contract. One vector, and no second. Assumes nothing.
use Rattle.group_order.proofs.is_only_vector.Goals as goal

pub returns-in-Opening : goal.returns-in-Opening
returns-in-Opening c = rw c.in-Opening.is

pub returns-in-Opened : goal.returns-in-Opened
returns-in-Opened c = rw c.in-Opened.is

pub returns-in-Going : goal.returns-in-Going
returns-in-Going c = rw c.in-Going.is
