-- `block_rows::put_line` meets its contract. Assumes nothing.
use Rattle.block_rows.proofs.WriteLaws.{line_put}
use Rattle.block_rows.proofs.put_line.Goals as goal

pub returns : goal.returns
returns c =
    line_put _ _ _ _ _ c.put_row.ensures c.fill_row.ensures
