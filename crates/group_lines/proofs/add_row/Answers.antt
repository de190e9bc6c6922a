-- `group_lines::add_row` meets its contract. The row is put behind the others where every test passes. Assumes nothing.
use mathlib.Core.Path.{refl, ◌∙◌}
use native.Mathlib.Omega.{arith}
use Rattle.iff.specs.declared.File.TheVariants.{Groups}
use Rattle.tables.proofs.Widths.{widths}
use Rattle.group_lines.proofs.StepLaws.{put_not, put_there}
use Rattle.group_lines.proofs.add_row.Goals as goal

pub put_row-requires : goal.put_row-requires
put_row-requires c =
    (refl, rw (c.test_row.ensures.kept ∙ c.requires.1) c.requires.0.room)

pub overflow_sub-from : goal.overflow_sub-from
overflow_sub-from c = omega (arith, c.requires.0.part)

pub overflow_add-from : goal.overflow_add-from
overflow_add-from c =
    omega (arith, c.requires.0.few, c.well_formed)

pub remember-requires : goal.remember-requires
remember-requires c =
    c.test_row.ensures.kept ∙ c.requires.1

pub bounds-row-0 : goal.bounds-row-0
bounds-row-0 c =
    omega (arith, (widths (Groups c.args.file)).wide, c.test_row.ensures.kept, c.requires.1)

pub bounds-row-1 : goal.bounds-row-1
bounds-row-1 c =
    omega (arith, (widths (Groups c.args.file)).wide, c.test_row.ensures.kept, c.requires.1)

pub open_after-after-requires : goal.open_after-after-requires
open_after-after-requires c =
    omega (arith, c.requires.0.part, c.requires.0.few, c.well_formed)

pub returns-in-Err : goal.returns-in-Err
returns-in-Err c =
    put_not _ _ _ _ _ _ _ _ c.requires.0 _ _ _ c.test_row.ensures _ c.in-Err.is

pub returns-in-Ok : goal.returns-in-Ok
returns-in-Ok c =
    put_there _ _ _ _ _ _ _ _ c.requires.0 _ _ _ c.test_row.ensures c.requires.1 c.in-Ok.is _
    c.put_row.ensures c.put_row.auto.t _ c.remember.ensures _ c.open_after-after.ensures
