-- `still_rises` meets its contract: each way out takes the tests that led to it. Assumes nothing.
use Rattle.fresh_keys.proofs.still_rises.Goals as goal

pub returns-then-run-2 : goal.returns-then-run-2
returns-then-run-2 c = rw (c.if-run.true, c.if-run-2.true)

pub returns-then-run : goal.returns-then-run
returns-then-run c = rw (c.if-run.true, c.if-run-2.false)

pub returns : goal.returns
returns c = rw c.if-run.false
