-- `linked_legs::are_linked` meets its contract: what is left, from the stop come to, is the whole. Assumes nothing.
use mathlib.Core.Path.{◌≡◌}
use Rattle.linked_legs.specs.Links.{block_between, linked}
use Rattle.linked_legs.proofs.are_linked.Given as goal

abbrev pub invariant-loop-i : goal.invariant-loop-i
invariant-loop-i l = linked l.kind 1 l.n (block_between l.t l.from l.to) ≡ linked l.kind l.at l.n (block_between l.t l.i l.to)
