-- `group_marks::number_in` meets its contract: a `#` is asked for its key, another row for itself. Assumes nothing.
use Prim.Native.Nat.{ℕ, ◌%◌}
use mathlib.Core.Path.{ap}
use native.Mathlib.Omega.{arith}
use borrow.Author.Tests.{eq-eqb, ne_eqb}
use Rattle.iff.specs.declared.File.TheVariants.{Groups}
use Rattle.tables.proofs.Widths.{widths}
use Rattle.group_marks.specs.Numbers.{prime}
use Rattle.group_marks.proofs.number_in.Goals as goal

pub bounds-row-0 : goal.bounds-row-0
bounds-row-0 c =
    omega (arith, (widths (Groups c.args.file)).wide, c.requires)

pub bounds-row-1 : goal.bounds-row-1
bounds-row-1 c =
    omega (arith, (widths (Groups c.args.file)).wide, c.requires)

pub returns-then-row-eq-HASH : goal.returns-then-row-eq-HASH
returns-then-row-eq-HASH c = rw (eq-eqb _ _ c.if-row-eq-HASH.true) (ap (λ (n : ℕ). n % prime) c.stir.ensures)

pub returns : goal.returns
returns c = rw (ne_eqb _ _ c.if-row-eq-HASH.false) c.row_number.ensures
