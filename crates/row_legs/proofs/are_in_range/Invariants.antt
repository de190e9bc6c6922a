-- `row_legs::are_in_range` meets its contract: what is left to ask is the whole. Assumes nothing.
use mathlib.Core.Path.{◌≡◌}
use Rattle.iff.specs.Lists.{all}
use Rattle.iff_rules.specs.Legs.{reach_of, in_range}
use Rattle.linked_legs.specs.Links.{block_between}
use Rattle.row_legs.proofs.are_in_range.Given as goal

abbrev pub invariant-loop-i : goal.invariant-loop-i
invariant-loop-i l = all (in_range reach_of l.n) (block_between l.t l.from l.to) ≡ all (in_range reach_of l.n) (block_between l.t l.i l.to)
