-- `open_groups::open_after` meets its contract. One line more, where that leads, and the key that it names. Assumes nothing.
use Rattle.open_groups.proofs.OpenLaws.{one_more}
use Rattle.open_groups.proofs.open_after.Goals as goal

pub returns : goal.returns
returns c =
    let a = c.args in
    one_more a.group a.tag a.key _ _ c.group_moves-moved.ensures c.run_after-after.ensures
