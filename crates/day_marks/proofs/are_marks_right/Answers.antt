-- What is left to test is the whole. Assumes nothing.
use mathlib.Core.Path.{sym, ◌∙◌}
use native.Mathlib.Omega.{arith}
use Rattle.day_marks.proofs.MarkLaws.{words_behind, read_begin, read_fails, read_on, read_end}
use Rattle.day_marks.proofs.are_marks_right.Goals as goal

pub returns-then-not-fits_days : goal.returns-then-not-fits_days
returns-then-not-fits_days c =
    let n = words_behind c.args.row.now c.requires in
    read_fails _ _ _ _ c.loop-word.invariant (omega arith) (sym c.fits_days.ensures ∙ c.if-not-fits_days.true)

pub loop-word-preserved : goal.loop-word-preserved
loop-word-preserved c =
    let n = words_behind c.args.row.now c.requires in
    read_on _ _ _ _ c.loop-word.invariant (omega arith) (sym c.fits_days.ensures ∙ c.if-not-fits_days.false) _
    c.days_behind-left.ensures

pub loop-word-init : goal.loop-word-init
loop-word-init c = read_begin _ _

pub returns : goal.returns
returns c =
    let n = words_behind c.args.row.now c.requires in
    read_end _ _ _ _ c.loop-word.invariant (omega arith)
