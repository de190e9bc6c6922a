-- `find_service` meets its contract: what any of the searches finds was tested, and the scan tells the rest. Assumes nothing.
use Rattle.keys.proofs.Among.{hit_found}
use Rattle.lookups.proofs.find_service.Goals as goal

pub returns-in-Some : goal.returns-in-Some
returns-in-Some c = hit_found _ _ _ _ _ c.found_by_place.ensures _ c.in-Some.is

pub returns-in-Some-found_by_halves : goal.returns-in-Some-found_by_halves
returns-in-Some-found_by_halves c = hit_found _ _ _ _ _ c.found_by_halves.ensures _ c.in-Some-found_by_halves.is

pub returns-in-Some-found_by_blocks : goal.returns-in-Some-found_by_blocks
returns-in-Some-found_by_blocks c = hit_found _ _ _ _ _ c.found_by_blocks.ensures _ c.in-Some-found_by_blocks.is

pub returns-in-None-found_by_blocks : goal.returns-in-None-found_by_blocks
returns-in-None-found_by_blocks c = c.found_by_scan.ensures
