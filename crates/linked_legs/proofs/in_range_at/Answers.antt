-- `linked_legs::in_range_at` meets its contract: the part that is handed on is row i. Assumes nothing.
use mathlib.Core.Path.{ap, ◌∙◌}
use Rattle.iff.specs.Tables.{row_width}
use Rattle.iff.specs.declared.File.TheVariants.{Timetbls}
use Rattle.iff_rules.specs.Legs.{reach_of, in_range}
use Rattle.linked_legs.proofs.RowLaws.{part_row}
use Rattle.linked_legs.proofs.in_range_at.Goals as goal

pub returns : goal.returns
returns c =
    let a = c.args in
    c.is_in_range.ensures ∙ ap (in_range reach_of a.n) (part_row (row_width Timetbls) a.i a.t.now)
