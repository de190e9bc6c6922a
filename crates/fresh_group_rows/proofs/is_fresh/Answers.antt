-- `is_fresh` meets its contract: a `#` clashes with nothing, and a row that has no mark with none of its group. Assumes nothing.
use Prim.Native.Nat.{◌+◌}
use mathlib.Core.List.{[]}
use native.Mathlib.Nat.{le-mul_of_pos_right}
use native.Mathlib.Omega.{arith}
use lib.ListN.{drop}
use Rattle.iff.specs.Tables.{row_width}
use Rattle.iff.specs.declared.File.TheVariants.{Groups}
use Rattle.keys.specs.Blocks.{rows_between}
use Rattle.tables.proofs.Widths.{widths}
use Rattle.group_marks.specs.Numbers.{Remembered}
use Rattle.fresh_group_rows.proofs.FreshLaws.{fresh_head, fresh_told, fresh_other}
use Rattle.fresh_group_rows.proofs.is_fresh.Goals as goal

pub bounds-row-0 : goal.bounds-row-0
bounds-row-0 c =
    omega (arith, c.requires.2, (widths (Groups c.args.file)).some)

pub returns-then-row-eq-HASH : goal.returns-then-row-eq-HASH
returns-then-row-eq-HASH c =
    let a = c.args in
    fresh_head a.file a.row.now _ c.if-row-eq-HASH.true

pub overflow_add-from : goal.overflow_add-from
overflow_add-from c =
    omega (arith, c.requires.0, c.requires.1, le-mul_of_pos_right c.args.to (widths (Groups c.args.file)).some)

pub returns-then-is_told_new : goal.returns-then-is_told_new
returns-then-is_told_new c =
    let a = c.args in
    let rows = drop 1 (rows_between (row_width (Groups a.file)) a.t.now a.from a.to) in
    let marked : Remembered a.file [] (a.from + 1) rows a.marks.now = c.requires.3 in
    fresh_told a.file a.row.now rows (c.is_told_new.ensures [] rows marked c.if-is_told_new.true)

pub overflow_add-from-2 : goal.overflow_add-from-2
overflow_add-from-2 c =
    omega (arith, c.requires.0, c.requires.1, le-mul_of_pos_right c.args.to (widths (Groups c.args.file)).some)

pub returns : goal.returns
returns c =
    let a = c.args in
    fresh_other a.file a.row.now (row_width (Groups a.file)) a.t.now a.from a.to _ c.if-row-eq-HASH.false c.fresh_in_group.ensures
