-- `row_legs::is_covered` meets its contract: records that follow each other cover, and of others the marks tell. Assumes nothing.
use mathlib.Core.Path.{sym, ◌∙◌}
use Rattle.linked_legs.specs.Links.{block_between}
use Rattle.row_legs.proofs.LinkLaws.{linked_covers}
use Rattle.row_legs.proofs.is_covered.Goals as goal

pub returns-then-are_linked : goal.returns-then-are_linked
returns-then-are_linked c =
    let a = c.args in
    sym
    (linked_covers a.kind a.n c.requires.kind (block_between a.t.now a.from a.to) c.requires.within
    (sym c.are_linked.ensures ∙ c.if-are_linked.true))
