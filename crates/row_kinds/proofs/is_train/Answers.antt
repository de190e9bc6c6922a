-- `is_train` meets its contract: its tests are the kind's, in order. Assumes nothing.
use native.Mathlib.Omega.{arith}
use borrow.Author.Tests.{not-true, not-false, lt-ltb, le-ltb}
use Rattle.row_kinds.proofs.is_train.Goals as goal

pub returns-then-company-ge1000 : goal.returns-then-company-ge1000
returns-then-company-ge1000 c = let a = c.args in rw (le-ltb a.company 1000 (omega (arith, c.if-company-ge1000.true)))

pub returns-then-number-ge100000 : goal.returns-then-number-ge100000
returns-then-number-ge100000 c =
    let a = c.args in
    rw (lt-ltb a.company 1000 (omega (arith, c.if-company-ge1000.false)), le-ltb a.number 100000 (omega (arith, c.if-number-ge100000.true)))

pub returns-then-not-rest : goal.returns-then-not-rest
returns-then-not-rest c =
    let a = c.args in
    rw (
      lt-ltb a.company 1000 (omega (arith, c.if-company-ge1000.false)),
      lt-ltb a.number 100000 (omega (arith, c.if-number-ge100000.false)),
      not-true a.rest c.if-not-rest.true-raw,
    )

pub returns : goal.returns
returns c =
    let a = c.args in
    rw (
      lt-ltb a.company 1000 (omega (arith, c.if-company-ge1000.false)),
      lt-ltb a.number 100000 (omega (arith, c.if-number-ge100000.false)),
      not-false a.rest c.if-not-rest.false-raw,
    ) c.names_at.ensures
