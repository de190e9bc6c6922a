-- `row_legs::mark_at` meets its contract: the part that is handed on is row i. Assumes nothing.
use Rattle.row_legs.proofs.WalkLaws.{part_markable, part_marked}
use Rattle.row_legs.proofs.mark_at.Goals as goal

pub mark_row-requires : goal.mark_row-requires
mark_row-requires c =
    part_markable c.args.t.now c.args.i c.args.n c.args.kind _ c.requires

pub returns : goal.returns
returns c =
    let a = c.args in
    part_marked a.t.now a.i a.n a.kind _ _ _ c.mark_row.ensures
