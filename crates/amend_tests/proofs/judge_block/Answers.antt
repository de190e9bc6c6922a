-- `amend_tests::judge_block` meets its contract: the block's fault at its own ordinal, or its lines and stops. Assumes nothing.
use Rattle.amend_tests.proofs.JudgeLaws.{block_broken, block_whole}
use Rattle.amend_tests.proofs.judge_block.Goals as goal

pub returns-in-Err : goal.returns-in-Err
returns-in-Err c =
    let a = c.args in
    block_broken a.form a.block.now a.t.now a.used a.from a.to a.companies.now a.modes.now a.stations.now
    a.footnotes.now _ c.count_for_blocks-counts.ensures _ c.check_block.ensures _ _ _ c.in-Err.is c.ordinal_at-ordinal.ensures

pub returns-in-Ok : goal.returns-in-Ok
returns-in-Ok c =
    let a = c.args in
    block_whole a.form a.block.now a.t.now a.used a.from a.to a.companies.now a.modes.now a.stations.now
    a.footnotes.now _ c.count_for_blocks-counts.ensures _ c.check_block.ensures _ _ c.in-Ok.is
