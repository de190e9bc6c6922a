-- `quick_steps::stop_for` meets its contract. Assumes nothing.
use native.Mathlib.Omega.{arith}
use Rattle.quick_steps.proofs.LineLaws.{is_one, is_none}
use Rattle.quick_steps.proofs.stop_for.Goals as goal

pub returns-then-is_stop : goal.returns-then-is_stop
returns-then-is_stop c = (is_one _ _ c.is_stop.ensures c.if-is_stop.true, omega arith)

pub returns-else-is_stop : goal.returns-else-is_stop
returns-else-is_stop c = (is_none _ _ c.is_stop.ensures c.if-is_stop.false, omega arith)
