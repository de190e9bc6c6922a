-- `find_group` meets its contract: the group of the row that is found. Assumes nothing.
use Rattle.store.proofs.FirstLaws.{found_inside}
use Rattle.store.proofs.find_group.Goals as goal

pub group_from-requires : goal.group_from-requires
group_from-requires c =
    let a = c.args in
    (c.requires.0, c.requires.1, found_inside a.file a.used a.t.now c.requires.0 a.key _ c.find_at-row.ensures)

pub returns : goal.returns
returns c = c.group_from.ensures _ c.find_at-row.ensures
