-- `asked` meets its contract: 12, 13, 14, in this order. Assumes nothing.
use borrow.Author.Tests.{not-true, not-false}
use mathlib.Core.Path.{sym, ◌∙◌}
use native.Mathlib.Omega.{arith}
use Rattle.running.proofs.AskedLaws.{valid_by, no_service, no_stop, no_date, all_right}
use Rattle.running.proofs.asked.Goals as goal

pub returns-then-part : goal.returns-then-part
returns-then-part c R s t d e = let a = c.args in no_service R s a.right a.date _ t a.part e c.if-part.true

pub returns-then-not-right : goal.returns-then-not-right
returns-then-not-right c R s t d e =
    let a = c.args in
    no_stop R s a.right a.date _ t a.part e (omega (arith, c.if-part.false)) (not-true _ c.if-not-right.true-raw)

pub returns-then-not-in_period : goal.returns-then-not-in_period
returns-then-not-in_period c R s t d e =
    let a = c.args in
    no_date R s a.right a.date _ t a.part e (omega (arith, c.if-part.false)) (not-false _ c.if-not-right.false-raw)
    (sym (valid_by R _ a.date _ _ d c.first_word-first.ensures c.first_word-last.ensures _ c.in_period.ensures) ∙ not-true _ c.if-not-in_period.true-raw)

pub returns : goal.returns
returns c R s t d e =
    let a = c.args in
    all_right R s a.right a.date _ t a.part e (omega (arith, c.if-part.false)) (not-false _ c.if-not-right.false-raw)
    (sym (valid_by R _ a.date _ _ d c.first_word-first.ensures c.first_word-last.ensures _ c.in_period.ensures) ∙ not-false _ c.if-not-in_period.false-raw)
