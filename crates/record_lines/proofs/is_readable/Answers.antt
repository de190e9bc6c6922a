-- A line that has its layout fails by its values alone. Assumes nothing.
use Rattle.iff.specs.Columns.{record_fields}
use Rattle.record_lines.proofs.LineLaws.{read_passes, read_fails}
use Rattle.record_lines.proofs.is_readable.Goals as goal

pub returns-in-Ok : goal.returns-in-Ok
returns-in-Ok c =
    read_passes _ (record_fields c.args.form c.args.«record») c.requires _ c.line_layout.ensures c.in-Ok.is

pub returns-in-Err : goal.returns-in-Err
returns-in-Err c =
    read_fails _ (record_fields c.args.form c.args.«record») c.requires _ c.line_layout.ensures _ c.in-Err.is
