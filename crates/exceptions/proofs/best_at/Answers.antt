-- `best_at` meets its contract: the rows after the `#` of the station's group. Assumes nothing.
use Rattle.exceptions.proofs.RowLaws.{best_of_group}
use Rattle.exceptions.proofs.best_at.Goals as goal

pub returns : goal.returns
returns c R e q =
    let a = c.args in
    best_of_group R a.xchanges.now a.used a.station c.find_group_surely-group.result a.xfootnotes.now a.a a.b a.day e q
    c.find_group_surely-group.ensures c.best_in.result c.best_in.ensures
