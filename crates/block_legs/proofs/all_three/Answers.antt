-- `block_legs::all_three` meets its contract. Assumes nothing.
use borrow.Author.Tests.{not-true, not-false}
use Rattle.block_legs.proofs.all_three.Goals as goal

pub returns-then-not-a : goal.returns-then-not-a
returns-then-not-a c = rw (not-true c.args.a c.if-not-a.true-raw)

pub returns-then-not-b : goal.returns-then-not-b
returns-then-not-b c = rw (not-false c.args.a c.if-not-a.false-raw, not-true c.args.b c.if-not-b.true-raw)

pub returns : goal.returns
returns c = rw (not-false c.args.a c.if-not-a.false-raw, not-false c.args.b c.if-not-b.false-raw)
