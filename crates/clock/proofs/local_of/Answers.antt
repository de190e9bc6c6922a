-- A number below 6000 is its own signed value. Assumes nothing.
use native.Mathlib.Omega.{arith}
use Rattle.clock.proofs.MinuteLaws.{held_nat}
use Rattle.clock.proofs.local_of.Goals as goal

pub returns : goal.returns
returns c = let e = held_nat c.args.minutes (omega arith) in (e, rw e (omega arith))
