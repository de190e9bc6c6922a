-- `settle` meets its contract. Assumes nothing.
use Rattle.clearing.proofs.SettleLaws.{all_stay, all_go}
use Rattle.clearing.proofs.settle.Goals as goal

pub returns-in-Ok : goal.returns-in-Ok
returns-in-Ok c = all_stay _ _ _ _ _ _ _ _ _ _ _ _ c.in-Ok.is

pub returns-in-Err : goal.returns-in-Err
returns-in-Err c =
    all_go _ _ _ _ _ _ _ _ _ _ _ _ _ _ _ _ _ _ _ _ _ _ _ _ _ c.in-Err.is c.clear_all.ensures
