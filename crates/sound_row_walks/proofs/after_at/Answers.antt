-- `after_at` meets its contract: the part that is handed on is row i. Assumes nothing.
use Rattle.iff.specs.Tables.{row_width}
use Rattle.iff.specs.declared.File.TheVariants.{Timetbls}
use Rattle.walks.proofs.GroupLaws.{part_is_row}
use Rattle.sound_row_walks.proofs.after_at.Goals as goal

pub returns : goal.returns
returns c =
    let a = c.args in
    rw (part_is_row (row_width Timetbls) a.i a.t.now) at c.after_row.ensures
