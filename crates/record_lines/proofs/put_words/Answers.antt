-- By whether the record is the vector or has fixed columns. Assumes nothing.
use mathlib.Core.Path.{◌∙◌}
use Rattle.record_lines.proofs.LineLaws.{marks_legible, marks_row, fields_legible, fields_row}
use Rattle.record_lines.proofs.put_words.Goals as goal

pub put_marks-requires : goal.put_marks-requires
put_marks-requires c =
    marks_legible c.args.form c.args.«record» _ c.spans_of-s.ensures _ _ c.requires c.if-to-eq0.true

pub returns-then-to-eq0 : goal.returns-then-to-eq0
returns-then-to-eq0 c =
    c.put_marks.ensures ∙ marks_row c.args.form c.args.«record» _ c.spans_of-s.ensures _ _ c.requires c.if-to-eq0.true _ _

pub put_fields-requires : goal.put_fields-requires
put_fields-requires c =
    fields_legible c.args.form c.args.«record» _ c.spans_of-s.ensures _ _ c.requires c.if-to-eq0.false

pub returns : goal.returns
returns c =
    c.put_fields.ensures ∙ fields_row c.args.form c.args.«record» _ c.spans_of-s.ensures _ _ c.requires c.if-to-eq0.false _ _
