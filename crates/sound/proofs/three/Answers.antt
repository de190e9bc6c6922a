-- `sound::three` meets its contract. Assumes nothing.
use native.Mathlib.Omega.{arith}
use borrow.Author.Tests.{lt-ltb}
use Rattle.sound.proofs.three.Goals as goal

pub returns-then-a-eq0 : goal.returns-then-a-eq0
returns-then-a-eq0 c = rw c.if-a-eq0.true

pub returns-then-b-eq0 : goal.returns-then-b-eq0
returns-then-b-eq0 c = rw (lt-ltb 0 c.args.a (omega (arith, c.if-a-eq0.false)), c.if-b-eq0.true)

pub returns : goal.returns
returns c =
    let a = c.args in
    rw (lt-ltb 0 a.a (omega (arith, c.if-a-eq0.false)), lt-ltb 0 a.b (omega (arith, c.if-b-eq0.false)))
