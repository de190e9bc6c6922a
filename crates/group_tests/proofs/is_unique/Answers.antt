-- `group_tests::is_unique` meets its contract. What has no mark is new; else a `#` is asked for its key, another row for clashes. Assumes nothing.
use native.Mathlib.Omega.{arith}
use Rattle.iff.specs.declared.File.TheVariants.{Groups}
use Rattle.tables.proofs.Widths.{widths}
use Rattle.group_tests.proofs.LineLaws.{unique_key, unique_other}
use Rattle.group_tests.proofs.is_unique.Goals as goal

pub returns-then-is_told_new : goal.returns-then-is_told_new
returns-then-is_told_new c =
    c.is_told_new.ensures _ _ c.requires.0.marked c.if-is_told_new.true

pub bounds-row-0 : goal.bounds-row-0
bounds-row-0 c =
    omega (arith, (widths (Groups c.args.file)).wide, c.requires.1)

pub bounds-row-1 : goal.bounds-row-1
bounds-row-1 c =
    omega (arith, (widths (Groups c.args.file)).wide, c.requires.1)

pub returns-then-row-eq-HASH : goal.returns-then-row-eq-HASH
returns-then-row-eq-HASH c = unique_key _ _ _ _ c.if-row-eq-HASH.true c.is_fresh.ensures _

pub returns : goal.returns
returns c = unique_other _ _ _ _ c.if-row-eq-HASH.false _ _ _ c.fresh_in_group.ensures
