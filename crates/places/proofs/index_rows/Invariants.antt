-- `index_rows` meets its contract: each row that is read is one of the first rows, and no slot is added. Assumes nothing.
use mathlib.Core.Path.{◌≡◌}
use lib.ListN.{length}
use Rattle.places.proofs.index_rows.Given as goal

abbrev pub invariant-loop-i : goal.invariant-loop-i
invariant-loop-i l = length l.places ≡ length l.initial.places
