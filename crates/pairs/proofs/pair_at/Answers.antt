-- `pair_at` meets its contract: the rows after the `#` of the station's group. Assumes nothing.
use Rattle.pairs.proofs.RowLaws.{pair_of_group}
use Rattle.pairs.proofs.pair_at.Goals as goal

pub returns : goal.returns
returns c R e =
    let a = c.args in
    pair_of_group R a.changes.now a.used a.station c.find_group_surely-group.result a.a a.b e c.find_group_surely-group.ensures
    c.pair_in.result c.pair_in.ensures
