-- `stops_after` meets its contract. Assumes nothing.
use mathlib.Core.Path.{sym, ◌∙◌}
use native.Mathlib.Nat.{add-zero}
use Rattle.sound_block_rows.proofs.stops_after.Goals as goal

pub returns-then-is_stop : goal.returns-then-is_stop
returns-then-is_stop c = rw (sym c.is_stop.ensures ∙ c.if-is_stop.true)

pub returns : goal.returns
returns c = rw (sym c.is_stop.ensures ∙ c.if-is_stop.false, add-zero)
