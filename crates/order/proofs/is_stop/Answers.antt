-- The four letters of stops. Assumes nothing.
use borrow.Author.Tests.{ne_eqb}
use Rattle.iff.specs.Lists.{any}
use Rattle.order.proofs.is_stop.Goals as goal

pub returns-in-62 : goal.returns-in-62
unfolding any
returns-in-62 c = rw c.in-62.is

pub returns-in-46 : goal.returns-in-46
unfolding any
returns-in-46 c = rw c.in-46.is

pub returns-in-43 : goal.returns-in-43
unfolding any
returns-in-43 c = rw c.in-43.is

pub returns-in-60 : goal.returns-in-60
unfolding any
returns-in-60 c = rw c.in-60.is

pub returns-in_default : goal.returns-in_default
unfolding any
returns-in_default c = simp (
  ne_eqb _ _ c.in_default.in_default-own.rest.0.0.0.1,
  ne_eqb _ _ c.in_default.in_default-own.rest.0.0.1,
  ne_eqb _ _ c.in_default.in_default-own.rest.0.1,
  ne_eqb _ _ c.in_default.in_default-own.rest.1,
)
