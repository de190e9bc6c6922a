-- By whether the record is the vector or has fixed columns. Assumes nothing.
use mathlib.Core.Path.{◌∙◌}
use borrow.Author.Tests.{not-true, not-false}
use Rattle.records.proofs.FieldLaws.{fixed_place}
use Rattle.record_lines.proofs.LineLaws.{laid_vector, laid_fixed}
use Rattle.record_lines.proofs.is_laid.Goals as goal

pub returns-then-to-eq0 : goal.returns-then-to-eq0
returns-then-to-eq0 c =
    let a = c.args in
    c.fits_days.ensures
    ∙ laid_vector a.form a.«record» _ c.spans_of-s.ensures _ a.ended (not-false a.ended c.if-not-ended.false-raw) c.if-to-eq0.true

pub looks_in-looks-requires : goal.looks_in-looks-requires
looks_in-looks-requires c =
    let p = fixed_place c.args.form c.args.«record» _ c.spans_of-s.ensures c.if-to-eq0.false in
    (p.low, p.top)

pub returns : goal.returns
returns c =
    let a = c.args in
    c.looks_in-looks.ensures.fitting
    ∙ laid_fixed a.form a.«record» _ c.spans_of-s.ensures _ a.ended (not-false a.ended c.if-not-ended.false-raw) c.if-to-eq0.false

pub returns-then-not-ended : goal.returns-then-not-ended
returns-then-not-ended c = rw (not-true c.args.ended c.if-not-ended.true-raw)
