-- `absence_test` meets its contract. Assumes nothing.
use Prim.Native.Nat.{◌<◌}
use native.Mathlib.Omega.{arith}
use borrow.Author.Tests.{lt-ltb}
use Rattle.size_tests.proofs.absence_test.Goals as goal

pub returns-then-n-eq0 : goal.returns-then-n-eq0
returns-then-n-eq0 c there x h =
    rw (c.in-Ok.is, ← (c.is_needed.ensures there x), c.if-is_needed.true, h, c.if-n-eq0.true)

pub returns-then-is_needed : goal.returns-then-is_needed
returns-then-is_needed c there x h =
    let more : 0 < c.args.n = omega arith in
    rw (c.in-Ok.is, ← (c.is_needed.ensures there x), c.if-is_needed.true, h, lt-ltb _ _ more)

pub returns-in-Err : goal.returns-in-Err
returns-in-Err c there x h = rw c.in-Err.is

pub returns-else-is_needed : goal.returns-else-is_needed
returns-else-is_needed c there x h =
    rw (c.in-Ok.is, ← (c.is_needed.ensures there x), c.if-is_needed.false)
