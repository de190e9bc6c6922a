-- `is_right_alone` meets its contract: the tests stand in the definition's order. Assumes nothing.
use mathlib.Core.Path.{refl, sym, ◌∙◌}
use mathlib.Core.Bool.{true, false}
use native.Mathlib.Omega.{arith}
use borrow.Author.Tests.{not-true, not-false}
use Rattle.iff.specs.declared.File.TheVariants.{Groups}
use Rattle.tables.proofs.Widths.{widths}
use Rattle.group_row_tests.proofs.RowLaws.{fits_row, alone_by_lem}
use Rattle.group_row_tests.proofs.is_right_alone.Goals as goal

pub bounds-row-0 : goal.bounds-row-0
bounds-row-0 c =
    omega (arith, c.requires, (widths (Groups c.args.file)).some)

pub returns-then-not-may_follow : goal.returns-then-not-may_follow
returns-then-not-may_follow c =
    let a = c.args in
    alone_by_lem a.form a.file a.stand a.row.now _ refl false _ _ false (sym c.may_follow.ensures ∙ not-true _ c.if-not-may_follow.true-raw)
    refl refl refl

pub is_shaped-requires : goal.is_shaped-requires
is_shaped-requires c =
    fits_row c.args.form c.args.file _ _ _ c.record_of-record.ensures c.requires

pub returns-then-not-is_shaped : goal.returns-then-not-is_shaped
returns-then-not-is_shaped c =
    let a = c.args in
    alone_by_lem a.form a.file a.stand a.row.now _ c.record_of-record.ensures true false _ false
    (sym c.may_follow.ensures ∙ not-false _ c.if-not-may_follow.false-raw)
    (sym c.is_shaped.ensures ∙ not-true _ c.if-not-is_shaped.true-raw)
    refl refl

pub returns : goal.returns
returns c =
    let a = c.args in
    alone_by_lem a.form a.file a.stand a.row.now _ c.record_of-record.ensures true true _ _
    (sym c.may_follow.ensures ∙ not-false _ c.if-not-may_follow.false-raw)
    (sym c.is_shaped.ensures ∙ not-false _ c.if-not-is_shaped.false-raw)
    refl c.group_means.ensures
