-- `length_test` meets its contract. Assumes nothing.
use Prim.Native.Nat.{◌<◌, ◌≤◌}
use native.Mathlib.Omega.{arith}
use borrow.Author.Tests.{le-leb, lt-leb}
use Rattle.size_tests.proofs.length_test.Goals as goal

pub returns-then-n-most : goal.returns-then-n-most
returns-then-n-most c =
    let a = c.args in
    let fits : a.n ≤ a.most = omega arith in
    rw (c.in-Ok.is, le-leb _ _ fits)

pub returns-else-n-most : goal.returns-else-n-most
returns-else-n-most c =
    let a = c.args in
    let longer : a.most < a.n = omega arith in
    rw (c.in-Ok.is, lt-leb _ _ longer)
