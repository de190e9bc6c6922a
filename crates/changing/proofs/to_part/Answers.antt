-- `to_part` meets its contract: stops 1 to n - 1. Assumes nothing.
use mathlib.Core.Path.{◌∙◌}
use Rattle.changing.specs.Sides.{side_of}
use Rattle.changing.proofs.AskLaws.{rows_found_lem, right_to, stops_first}
use Rattle.changing.proofs.to_part.Goals as goal

pub stops_told-requires : goal.stops_told-requires
stops_told-requires c =
    let a = c.args in
    (c.requires.1.inside, stops_first a.timetbls.now c.requires.2 a.v.service a.part c.requires.1)

pub returns : goal.returns
returns c R d e =
    let a = c.args in
    c.asked.ensures R a.v.service a.timetbls.now d (rows_found_lem R a.timetbls.now e (side_of a.v) a.part c.requires.1)
    ∙ right_to R a.timetbls.now e (side_of a.v) a.part c.requires.1 c.stops_told.result c.stops_told.ensures c.is_leg-right.result
    c.is_leg-right.ensures
