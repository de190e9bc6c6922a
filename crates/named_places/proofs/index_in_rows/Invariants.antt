-- `index_in_rows` meets its contract: each row that is read is one of the first rows, no slot is added, and none is changed before a service is asked
-- for. Assumes nothing.
use mathlib.Core.Path.{◌≡◌}
use mathlib.Core.Bool.{false}
use lib.ListN.{length}
use Rattle.named_places.proofs.index_in_rows.Given as goal

abbrev pub invariant-loop-i : goal.invariant-loop-i
invariant-loop-i l = (length l.places ≡ length l.initial.places) × (l.asked ≡ false → l.places ≡ l.initial.places)
