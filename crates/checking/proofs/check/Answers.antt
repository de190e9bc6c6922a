-- `check` meets its contract: the first larger file, or the load's answer. Assumes nothing.
use Rattle.checking.proofs.CheckLaws.{larger_is, answer_is}
use Rattle.checking.proofs.check.Goals as goal

pub returns-in-Err : goal.returns-in-Err
returns-in-Err c = larger_is _ _ _ c.lengths-sizes.ensures c.in-Err.is

pub returns-in-Ok : goal.returns-in-Ok
returns-in-Ok c = answer_is c.lengths-sizes.ensures c.in-Ok.is c.load_small.ensures
