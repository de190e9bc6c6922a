-- `from_part` meets its contract: stops 2 to n. Assumes nothing.
use mathlib.Core.Path.{◌∙◌}
use Rattle.changing.specs.Sides.{side_of}
use Rattle.changing.proofs.AskLaws.{rows_found_lem, right_from, stops_first}
use Rattle.changing.proofs.from_part.Goals as goal

pub stops_told-requires : goal.stops_told-requires
stops_told-requires c =
    let a = c.args in
    (c.requires.1.inside, stops_first a.timetbls.now c.requires.2 a.v.service a.part c.requires.1)

pub returns : goal.returns
returns c R d e =
    let a = c.args in
    c.asked.ensures R a.v.service a.timetbls.now d (rows_found_lem R a.timetbls.now e (side_of a.v) a.part c.requires.1)
    ∙ right_from R a.timetbls.now e (side_of a.v) a.part c.requires.1 c.stops_told.result c.stops_told.ensures c.may_end-right.result
    c.may_end-right.ensures
