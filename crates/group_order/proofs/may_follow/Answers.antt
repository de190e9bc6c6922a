-- `group_order::may_follow` meets its contract. A group begins with its `#`. Assumes nothing.
use mathlib.Core.Path.{◌∙◌}
use borrow.Author.Rules.{rules}
use Rattle.iff_rules.specs.Order.{may_follow}
use Rattle.group_order.proofs.may_follow.Goals as goal

pub may_stand-requires : goal.may_stand-requires
unfolding may_follow
may_stand-requires c = search rules

pub may_stand-requires-in-Going : goal.may_stand-requires-in-Going
unfolding may_follow
may_stand-requires-in-Going c = search rules

pub returns-in-Opening : goal.returns-in-Opening
unfolding may_follow
returns-in-Opening c = rw c.in-Opening.is

pub returns-in-Opened : goal.returns-in-Opened
unfolding may_follow
returns-in-Opened c = c.may_stand.ensures ∙ rw c.in-Opened.is

pub returns-in-Going : goal.returns-in-Going
unfolding may_follow
returns-in-Going c = c.may_stand-in-Going.ensures ∙ rw c.in-Going.is
