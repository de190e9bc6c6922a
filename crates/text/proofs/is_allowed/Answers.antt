-- `text::is_allowed` meets its contract: its tests are the definition's, in order. Assumes nothing.
use native.Mathlib.Omega.{arith}
use borrow.Author.Tests.{le-leb, lt-leb}
use Rattle.iff.specs.Bytes.{allowed}
use Rattle.text.proofs.is_allowed.Goals as goal

pub returns-then-b-lt32 : goal.returns-then-b-lt32
unfolding allowed
returns-then-b-lt32 c = let b = c.args.b in simp (lt-leb 32 b (omega arith), lt-leb 160 b (omega arith))

pub returns-then-b-le126 : goal.returns-then-b-le126
unfolding allowed
returns-then-b-le126 c = let b = c.args.b in simp (le-leb 32 b (omega arith), le-leb b 126 (omega arith))

pub returns : goal.returns
unfolding allowed
returns c = let b = c.args.b in simp (le-leb 32 b (omega arith), lt-leb b 126 (omega arith))
