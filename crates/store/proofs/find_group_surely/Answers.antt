-- `find_group_surely` meets its contract: the group of the row that is found. Assumes nothing.
use Rattle.store.proofs.FirstLaws.{used_fits, found_inside}
use Rattle.store.proofs.find_group_surely.Goals as goal

pub find_surely-row-requires : goal.find_surely-row-requires
find_surely-row-requires c =
    (c.requires.2, used_fits _ _ _ c.requires.0)

pub group_from-requires : goal.group_from-requires
group_from-requires c =
    let a = c.args in
    (c.requires.0, c.requires.1, found_inside a.file a.used a.t.now c.requires.0 a.key _ c.find_surely-row.ensures)

pub returns : goal.returns
returns c = c.group_from.ensures _ c.find_surely-row.ensures
