-- `change_or_lost` meets its contract: A's service, then B's, then the change. Assumes nothing.
use mathlib.Core.Path.{◌∙◌}
use Rattle.changing.specs.Sides.{side_of}
use Rattle.lost_services.proofs.LostLaws.{from_lost, to_lost}
use Rattle.lost_services.proofs.change_or_lost.Goals as goal

pub returns-then-is_lost : goal.returns-then-is_lost
returns-then-is_lost c R rows =
    let a = c.args in
    from_lost R a.timetbls.now rows.timetbls (side_of a.from) (side_of a.to) (c.is_lost.ensures c.if-is_lost.true)

pub returns-then-is_lost-2 : goal.returns-then-is_lost-2
returns-then-is_lost-2 c R rows =
    let a = c.args in
    c.refused_before.ensures R rows.zones.delivery rows.timetbls
    ∙ to_lost R a.timetbls.now rows.timetbls (side_of a.from) (side_of a.to) (c.is_lost-2.ensures c.if-is_lost-2.true)
