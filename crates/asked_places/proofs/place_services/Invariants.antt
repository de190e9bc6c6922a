-- `place_services` meets its contract: each question that is read is one of those asked, and no slot is added. Assumes nothing.
use mathlib.Core.Path.{◌≡◌}
use lib.ListN.{length}
use Rattle.asked_places.proofs.place_services.Given as goal

abbrev pub invariant-loop-q : goal.invariant-loop-q
invariant-loop-q l = length l.places ≡ length l.initial.places
