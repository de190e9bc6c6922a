-- `linked_legs::are_all_linked` meets its contract: what is left is the whole, of each test. Assumes nothing.
use Rattle.linked_legs.proofs.LinkingLaws.{Linking}
use Rattle.linked_legs.proofs.are_all_linked.Given as goal

abbrev pub invariant-loop-i : goal.invariant-loop-i
invariant-loop-i l = Linking l.t l.from l.to l.n l.i l.number l.validity l.mode
