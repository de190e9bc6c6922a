-- By whether the record is the vector or has fixed columns. Assumes nothing.
use mathlib.Core.Path.{◌∙◌}
use borrow.Author.Tests.{not-true, not-false}
use Rattle.record_lines.proofs.LineLaws.{order_vector, order_fixed, fixed_fit}
use Rattle.record_lines.proofs.line_layout.Goals as goal

pub returns-then-to-eq0 : goal.returns-then-to-eq0
returns-then-to-eq0 c =
    let a = c.args in
    c.vector_layout.ensures
    ∙ order_vector a.form a.«record» _ c.spans_of-s.ensures _ a.ended (not-false a.ended c.if-not-ended.false-raw) c.if-to-eq0.true

pub fixed_layout-requires : goal.fixed_layout-requires
fixed_layout-requires c =
    let a = c.args in
    fixed_fit a.form a.«record» _ c.spans_of-s.ensures _ c.if-to-eq0.false

pub returns : goal.returns
returns c =
    let a = c.args in
    c.fixed_layout.ensures
    ∙ order_fixed a.form a.«record» _ c.spans_of-s.ensures _ a.ended (not-false a.ended c.if-not-ended.false-raw) c.if-to-eq0.false

pub returns-then-not-ended : goal.returns-then-not-ended
returns-then-not-ended c = rw (not-true c.args.ended c.if-not-ended.true-raw)
