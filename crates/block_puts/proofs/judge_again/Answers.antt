-- `block_puts::judge_again` meets its contract: the service is looked for among the rows before the block's. Assumes nothing.
use Rattle.block_puts.proofs.AddLaws.{judged}
use Rattle.block_puts.proofs.judge_again.Goals as goal

pub returns : goal.returns
returns c =
    let a = c.args in
    judged a.form a.block.now a.counts a.companies.now a.modes.now a.stations.now a.footnotes.now a.t.now _ a.row _
    _ c.names_among-came.result (c.service_of-service.ensures a.form) c.names_among-came.ensures c.check_then_write.ensures
