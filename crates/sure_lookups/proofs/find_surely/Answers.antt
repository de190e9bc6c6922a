-- `find_surely` meets its contract: what is found at its place was tested, and what is not there is told by the slots or a search. Assumes nothing.
use Rattle.keys.proofs.Among.{hit_found}
use Rattle.sure_lookups.proofs.AbsentLaws.{found_nowhere}
use Rattle.sure_lookups.proofs.find_surely.Goals as goal

pub returns-then-is_absent : goal.returns-then-is_absent
returns-then-is_absent c =
    let a = c.args in
    found_nowhere a.file a.t.now a.used a.key (c.is_absent.ensures c.if-is_absent.true)

pub returns-in-Some : goal.returns-in-Some
returns-in-Some c = hit_found _ _ _ _ _ c.found_by_place.ensures _ c.in-Some.is
