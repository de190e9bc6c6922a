-- `block_puts::place_block` meets its contract: what the quick reader left is checked and written in its place. Assumes nothing.
use Rattle.block_puts.proofs.AddLaws.{placed_quickly, placed_after}
use Rattle.block_puts.proofs.place_block.Goals as goal

pub returns-in-Some : goal.returns-in-Some
returns-in-Some c =
    let a = c.args in
    placed_quickly a.form a.block.now a.fresh a.counts a.companies.now a.modes.now a.stations.now a.footnotes.now
    a.t.now _ a.row _ c.put_block.ensures _ _ c.in-Some.is

pub returns-in-None : goal.returns-in-None
returns-in-None c =
    let a = c.args in
    placed_after a.form a.block.now a.fresh a.counts a.companies.now a.modes.now a.stations.now a.footnotes.now
    a.t.now _ _ a.row _ c.put_block.ensures _ c.check_then_write.ensures
