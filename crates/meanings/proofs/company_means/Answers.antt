-- A number of 1 or more, written out, and a day turn. Assumes nothing.
use Prim.Native.Nat.{◌≤◌, ◌<◌}
use native.Mathlib.Omega.{arith}
use borrow.Author.Tests.{le-leb, lt-leb}
use Rattle.iff.specs.Words.{company_number}
use Rattle.iff_rules.specs.Meaning.{row_meaning}
use Rattle.meanings.proofs.company_means.Goals as goal

pub returns-then-row-lt1 : goal.returns-then-row-lt1
unfolding row_meaning
returns-then-row-lt1 c =
    let none : company_number c.args.row.now < 1 = omega (arith, c.if-row-lt1.true) in
    rw (lt-leb _ _ none)

pub returns : goal.returns
unfolding row_meaning
returns c =
    let some : 1 ≤ company_number c.args.row.now = omega (arith, c.if-row-lt1.false) in
    rw (le-leb _ _ some, c.is_turn.ensures)
