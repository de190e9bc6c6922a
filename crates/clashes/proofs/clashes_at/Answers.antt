-- `clashes_at` meets its contract: the part that is handed on is row i. Assumes nothing.
use Rattle.clashes.proofs.Parts.{part_row}
use Rattle.clashes.proofs.clashes_at.Goals as goal

pub returns : goal.returns
returns c =
    let a = c.args in
    part_row a.file a.w a.i a.t.now a.row.now _ c.clashes.ensures
