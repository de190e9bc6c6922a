-- `index_keys` meets its contract: before each row, what is left of the keys decides what is told of them all. Assumes nothing.
use Rattle.index.specs.Keying.{Indexed}
use Rattle.index.proofs.index_keys.Given as goal

abbrev pub invariant-loop-i : goal.invariant-loop-i
invariant-loop-i l = Indexed l.file l.used l.t l.initial.places l.run l.i l.places
