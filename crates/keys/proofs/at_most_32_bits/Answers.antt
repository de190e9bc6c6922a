-- `at_most_32_bits` meets its contract. Assumes nothing.
use borrow.Author.Tests.{lt-ltb, le-ltb}
use Rattle.keys.specs.Places.{few}
use Rattle.keys.proofs.at_most_32_bits.Goals as goal

pub returns-then-n-lt4294967296 : goal.returns-then-n-lt4294967296
unfolding few
returns-then-n-lt4294967296 c = rw (lt-ltb _ _ c.if-n-lt4294967296.true)

pub returns-else-n-lt4294967296 : goal.returns-else-n-lt4294967296
unfolding few
returns-else-n-lt4294967296 c = rw (le-ltb _ _ c.if-n-lt4294967296.false)
