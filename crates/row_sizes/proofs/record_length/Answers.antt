-- As many columns as the record has in the table of pictures, and of the vector as many as there are days. Assumes nothing.
use native.Mathlib.Omega.{arith}
use Rattle.row_sizes.proofs.LineLaws.{vector_length, in_turn_lem, fixed_length}
use Rattle.row_sizes.proofs.record_length.Goals as goal

pub returns-then-to-eq0 : goal.returns-then-to-eq0
returns-then-to-eq0 c =
    vector_length c.args.form c.args.«record» _ c.spans_of-s.ensures c.if-to-eq0.true

pub overflow_sub-result : goal.overflow_sub-result
overflow_sub-result c =
    omega (arith, in_turn_lem c.args.form c.args.«record» _ c.spans_of-s.ensures c.if-to-eq0.false)

pub returns : goal.returns
returns c =
    fixed_length c.args.form c.args.«record» _ c.spans_of-s.ensures c.if-to-eq0.false
