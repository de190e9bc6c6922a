-- `met_exception` meets its contract. Assumes nothing.
use mathlib.Core.Path.{◌∙◌}
use borrow.Author.Tests.{eq-eqb, ne_eqb}
use Rattle.iff_rules.specs.References.{met_in_group}
use Rattle.group_references.proofs.SideLaws.{sides_met}
use Rattle.group_references.proofs.met_exception.Goals as goal

pub returns-then-row-eq-HASH : goal.returns-then-row-eq-HASH
unfolding met_in_group
returns-then-row-eq-HASH c k a = rw (eq-eqb _ _ c.if-row-eq-HASH.true, a.stations) c.names_at.ensures

pub returns : goal.returns
unfolding met_in_group
returns c k a =
    rw (ne_eqb _ _ c.if-row-eq-HASH.false) (c.met_sides.ensures ∙ sides_met k _ _ _ _ _ a c.args.row.now)
