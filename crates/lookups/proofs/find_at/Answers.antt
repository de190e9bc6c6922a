-- `find_at` meets its contract: what the first search finds was tested, and the second tells the rest. Assumes nothing.
use Rattle.keys.proofs.Among.{hit_found}
use Rattle.lookups.proofs.find_at.Goals as goal

pub returns-in-Some : goal.returns-in-Some
returns-in-Some c = hit_found _ _ _ _ _ c.found_by_place.ensures _ c.in-Some.is

pub returns-in-None : goal.returns-in-None
returns-in-None c = c.find_among.ensures
