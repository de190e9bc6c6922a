-- `is_row_sound` meets its contract: the tests stand in the definition's order, and a row that passes them is remembered. Assumes nothing.
use native.Mathlib.Nat.{le-mul_of_pos_right}
use native.Mathlib.Omega.{arith}
use borrow.Author.Tests.{not-true, not-false}
use Rattle.iff.specs.declared.File.TheVariants.{Groups}
use Rattle.tables.proofs.Widths.{widths}
use Rattle.sound_group_rows.proofs.RowLaws.{told_wrong, told_clashing, told_unmet, told_sound}
use Rattle.sound_group_rows.proofs.is_row_sound.Goals as goal

pub returns-then-not-is_right_alone : goal.returns-then-not-is_right_alone
returns-then-not-is_right_alone c =
    let a = c.args in
    told_wrong a.form _ _ _ _ _ _ a.file a.from _ a.stand a.row.now c.requires.3 _ c.is_right_alone.ensures _
    (not-true _ c.if-not-is_right_alone.true-raw)

pub returns-then-not-is_fresh : goal.returns-then-not-is_fresh
returns-then-not-is_fresh c =
    let a = c.args in
    told_clashing a.form _ _ _ _ _ _ a.file a.from _ a.stand a.row.now c.requires.3 _ c.is_right_alone.ensures
    (not-false _ c.if-not-is_right_alone.false-raw) _ c.is_fresh.ensures _ (not-true _ c.if-not-is_fresh.true-raw)

pub returns-then-not-met_in_group : goal.returns-then-not-met_in_group
returns-then-not-met_in_group c =
    let a = c.args in
    told_unmet a.form _ _ _ _ _ _ a.file a.from _ a.stand a.row.now c.requires.3 _ c.is_right_alone.ensures
    (not-false _ c.if-not-is_right_alone.false-raw) _ c.is_fresh.ensures (not-false _ c.if-not-is_fresh.false-raw) _ c.met_in_group.ensures _
    (not-true _ c.if-not-met_in_group.true-raw)

pub overflow_add-from : goal.overflow_add-from
overflow_add-from c =
    omega (arith, c.requires.0, c.requires.1, le-mul_of_pos_right c.args.i (widths (Groups c.args.file)).some)

pub returns : goal.returns
returns c =
    let a = c.args in
    told_sound a.form _ _ _ _ _ _ a.file a.from _ a.stand a.row.now c.requires.3 _ c.is_right_alone.ensures
    (not-false _ c.if-not-is_right_alone.false-raw) _ c.is_fresh.ensures (not-false _ c.if-not-is_fresh.false-raw) _ c.met_in_group.ensures
    a.marks.now c.requires.4 _ c.remember.ensures (not-false _ c.if-not-met_in_group.false-raw)
