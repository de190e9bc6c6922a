-- `block_legs::names_stops` meets its contract. Assumes nothing.
use borrow.Author.Tests.{ne_eqb}
use Rattle.iff.specs.Lists.{any}
use Rattle.legs.specs.Rows.{names_stops}
use Rattle.block_legs.proofs.names_stops.Goals as goal

pub returns-in-37 : goal.returns-in-37
unfolding names_stops any
returns-in-37 c = rw c.in-37.is

pub returns-in-45 : goal.returns-in-45
unfolding names_stops any
returns-in-45 c = rw c.in-45.is

pub returns-in-38 : goal.returns-in-38
unfolding names_stops any
returns-in-38 c = rw c.in-38.is

pub returns-in-42 : goal.returns-in-42
unfolding names_stops any
returns-in-42 c = rw c.in-42.is

pub returns-in_default : goal.returns-in_default
unfolding names_stops any
returns-in_default c = let r = c.in_default.in_default-own.rest in
    simp (ne_eqb _ _ r.0.0.0.1, ne_eqb _ _ r.0.0.1, ne_eqb _ _ r.0.1, ne_eqb _ _ r.1)
