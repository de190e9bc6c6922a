-- `met_mode` meets its contract: the wildcard is looked up nowhere. Assumes nothing.
use borrow.Author.Tests.{eq-eqb, ne_eqb}
use Rattle.references.proofs.References.{any_mode_lem}
use Rattle.group_references.proofs.met_mode.Goals as goal

pub returns-then-mode-eq-ANY_MODE : goal.returns-then-mode-eq-ANY_MODE
returns-then-mode-eq-ANY_MODE c = rw (any_mode_lem, eq-eqb _ _ c.if-mode-eq-ANY_MODE.true)

pub returns : goal.returns
returns c = rw (any_mode_lem, ne_eqb _ _ c.if-mode-eq-ANY_MODE.false) c.names_at.ensures
