-- `block_puts::check_then_write` meets its contract. Assumes nothing.
use Rattle.std.proofs.Common.{rules, ◌≡◌, Err}
use mathlib.Core.Path.{refl}
use Rattle.block_puts.proofs.AddLaws.{placed_broken, can_be_placed, placed_whole}
use Rattle.block_puts.proofs.check_then_write.Goals as goal

pub write_block-requires : goal.write_block-requires
write_block-requires c =
    let a = c.args in
    can_be_placed a.form a.block.now a.fresh a.counts a.companies.now a.modes.now a.stations.now a.footnotes.now
    a.t.now a.t.now a.row _ c.check_block.ensures c.requires _ _ c.in_ok-size.was

pub returns-in_err-size : goal.returns-in_err-size
returns-in_err-size c =
    let a = c.args in
    let handed : c.from_residual.result ≡ Err c.in_err-size.field-0.0 = search rules in
    rw handed (placed_broken a.form a.block.now a.fresh a.counts a.companies.now a.modes.now a.stations.now a.footnotes.now
    a.t.now _ a.row _ c.check_block.ensures refl _ _ c.in_err-size.was)

pub returns : goal.returns
returns c =
    let a = c.args in
    placed_whole a.form a.block.now a.fresh a.counts a.companies.now a.modes.now a.stations.now a.footnotes.now
    a.t.now _ a.row _ c.check_block.ensures _ _ c.in_ok-size.was c.write_block.ensures
