-- `leg_before` meets its contract. Assumes nothing.
use native.Mathlib.Omega.{arith}
use Rattle.needed_times.proofs.leg_before.Goals as goal

pub overflow_sub-result : goal.overflow_sub-result
overflow_sub-result c = omega arith

pub returns-then-stop-eq0 : goal.returns-then-stop-eq0
returns-then-stop-eq0 c = omega arith

pub returns-else-stop-eq0 : goal.returns-else-stop-eq0
returns-else-stop-eq0 c = omega arith
