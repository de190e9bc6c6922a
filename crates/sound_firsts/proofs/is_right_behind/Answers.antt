-- `is_right_behind` meets its contract: only TIMETBLS has a number there. Assumes nothing.
use mathlib.Core.Path.{refl, ap, ◌∙◌}
use mathlib.Core.Bool.{true, false}
use native.Mathlib.Omega.{arith}
use borrow.Author.Tests.{eq-eqb, ne_eqb}
use Rattle.iff.specs.Tables.{row_width}
use Rattle.iff_rules.specs.Rows.{line_one}
use Rattle.sound_firsts.proofs.FirstLaws.{zeros_behind, number_behind}
use Rattle.sound_firsts.proofs.is_right_behind.Goals as goal

pub bounds-row-6 : goal.bounds-row-6
bounds-row-6 c = omega (arith, c.requires ∙ ap row_width c.in-Timetbls.is)

pub returns-then-row-ne1 : goal.returns-then-row-ne1
returns-then-row-ne1 c =
    let f = c.in-Timetbls.is in
    rw f (number_behind c.args.row.now false false ((omega (arith, c.requires ∙ ap row_width c.in-Timetbls.is))) (ne_eqb _ _ c.if-row-ne1.true) refl)

pub returns-in-Delivery : goal.returns-in-Delivery
returns-in-Delivery c =
    let a = c.args in
    zeros_behind a.file a.row.now _ (ap line_one c.in-Delivery.is) c.zero_from.ensures

pub returns-in-Rows : goal.returns-in-Rows
returns-in-Rows c =
    let a = c.args in
    zeros_behind a.file a.row.now _ (ap line_one c.in-Rows.is) c.zero_from-in-Rows.ensures

pub returns-in-Groups : goal.returns-in-Groups
returns-in-Groups c =
    let a = c.args in
    zeros_behind a.file a.row.now _ (ap line_one c.in-Groups.is) c.zero_from-in-Groups.ensures

pub returns-else-row-ne1 : goal.returns-else-row-ne1
returns-else-row-ne1 c =
    let f = c.in-Timetbls.is in
    rw f (number_behind c.args.row.now true _ ((omega (arith, c.requires ∙ ap row_width c.in-Timetbls.is))) (eq-eqb _ _ c.if-row-ne1.false) c.zero_from-in-Timetbls.ensures)
