-- `is_service` meets its contract. Assumes nothing.
use native.Mathlib.Omega.{arith}
use borrow.Author.Tests.{lt-ltb, le-ltb}
use Rattle.row_kinds.proofs.is_service.Goals as goal

pub returns-then-service-ge100000000 : goal.returns-then-service-ge100000000
returns-then-service-ge100000000 c = rw (le-ltb c.args.service 100000000 (omega (arith, c.if-service-ge100000000.true)))

pub returns : goal.returns
returns c = rw (lt-ltb c.args.service 100000000 (omega (arith, c.if-service-ge100000000.false)))
