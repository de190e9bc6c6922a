-- The two tests, in order. Assumes nothing.
use borrow.Author.Tests.{not-true, not-false}
use Rattle.record_lines.proofs.vector_layout.Goals as goal

pub returns-then-not-fits_days : goal.returns-then-not-fits_days
returns-then-not-fits_days c = rw (← c.fits_days.ensures, not-true c.fits_days.result c.if-not-fits_days.true-raw)

pub returns-then-not-all_marks : goal.returns-then-not-all_marks
returns-then-not-all_marks c = let d = c.fits_days in
    let m = c.all_marks in
    rw (← d.ensures, not-false d.result c.if-not-fits_days.false-raw, ← m.ensures, not-true m.result c.if-not-all_marks.true-raw)

pub returns : goal.returns
returns c = let d = c.fits_days in
    let m = c.all_marks in
    rw (← d.ensures, not-false d.result c.if-not-fits_days.false-raw, ← m.ensures, not-false m.result c.if-not-all_marks.false-raw)
