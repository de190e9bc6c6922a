-- `is_fresh` meets its contract: a key with which the keys still rise is none of them. Assumes nothing.
use mathlib.Core.Path.{ap}
use mathlib.Core.Bool.{not}
use Rattle.fresh_keys.proofs.Runs.{fresh_by_run}
use Rattle.fresh_keys.proofs.is_fresh.Goals as goal

pub returns-then-still_rises : goal.returns-then-still_rises
returns-then-still_rises c =
    fresh_by_run c.args.run _ _ c.requires _ c.still_rises.ensures c.if-still_rises.true

pub returns : goal.returns
returns c = ap not c.names.ensures
