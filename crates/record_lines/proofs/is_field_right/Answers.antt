-- The field's bytes are the definition's columns. Assumes nothing.
use Rattle.record_lines.proofs.ColumnLaws.{part_right}
use Rattle.record_lines.proofs.is_field_right.Goals as goal

pub returns : goal.returns
returns c = part_right _ _ c.entry_at-e.ensures _ c.requires _ c.is_right.ensures
