-- `rank` meets its contract: it is the place of the pattern of its four keys. Assumes nothing.
use mathlib.Core.Path.{◌∙◌}
use Rattle.references.proofs.References.{any_company_lem, any_mode_lem}
use Rattle.ranks.proofs.CardLaws.{by_keys_lem}
use Rattle.ranks.proofs.rank.Goals as goal

pub returns : goal.returns
returns c =
    let a = c.args in
    c.place_of.ensures
    ∙ by_keys_lem a.from a.to (rw any_company_lem c.is_named.ensures) (rw any_mode_lem c.is_named-2.ensures) (rw any_company_lem c.is_named-3.ensures)
    (rw any_mode_lem c.is_named-4.ensures)
