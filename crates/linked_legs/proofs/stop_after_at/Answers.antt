-- `linked_legs::stop_after_at` meets its contract: the part that is handed on is row i. Assumes nothing.
use mathlib.Core.Path.{ap, ◌∙◌}
use Rattle.iff.specs.Tables.{row_width}
use Rattle.iff.specs.declared.File.TheVariants.{Timetbls}
use Rattle.linked_legs.specs.Links.{stop_after}
use Rattle.linked_legs.proofs.RowLaws.{part_row}
use Rattle.linked_legs.proofs.stop_after_at.Goals as goal

pub returns : goal.returns
returns c =
    let a = c.args in
    c.stop_after.ensures ∙ ap (stop_after a.kind a.at) (part_row (row_width Timetbls) a.i a.t.now)
