-- `line_counts::ends_in` meets its contract: the ends counted and those from i on are all. Assumes nothing.
use native.Mathlib.Omega.{arith}
use Rattle.line_counts.proofs.EndLaws.{runs_start, runs_on_lem, runs_end}
use Rattle.line_counts.proofs.ends_in.Goals as goal

pub loop-i-init : goal.loop-i-init
loop-i-init c = runs_start _ _ _ c.requires.0

pub overflow_add-n : goal.overflow_add-n
overflow_add-n c = omega (arith, c.loop-i.invariant, c.loop-i-test.true, c.end_of-n.ensures.1, c.requires.2)

pub loop-i-preserved : goal.loop-i-preserved
loop-i-preserved c = runs_on_lem _ _ _ _ _ _ c.loop-i.invariant c.loop-i-test.true c.requires.1 c.end_of-n.ensures.0 c.end_of-n.ensures.1

pub returns : goal.returns
returns c = (runs_end _ _ _ _ _ c.loop-i.invariant c.loop-i-test.false, omega (arith, c.loop-i.invariant, c.requires.2))
