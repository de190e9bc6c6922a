-- The difference fits, and is that of what `on_day` ensures. Assumes nothing.
use mathlib.Core.Path.{◌∙◌}
use native.Mathlib.Omega.{arith}
use Rattle.clock.proofs.MinuteLaws.{less_fits, less_is}
use Rattle.clock.proofs.gap.Goals as goal

pub overflow_sub-result : goal.overflow_sub-result
overflow_sub-result c = less_fits c.on_day.result c.on_day-2.result (omega arith) (omega arith)

pub returns : goal.returns
returns c =
    less_is c.on_day.result c.on_day-2.result (omega arith) (omega arith)
    ∙ rw (c.on_day.ensures.0, c.on_day-2.ensures.0)
