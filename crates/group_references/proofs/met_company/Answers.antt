-- `met_company` meets its contract: the wildcard is looked up nowhere. Assumes nothing.
use mathlib.Core.Path.{◌≡◌}
use mathlib.Core.Bool.{true, false}
use borrow.Author.Tests.{eq-eqb, ne_eqb}
use lib.Dec.{eqb}
use Rattle.iff_rules.specs.References.{any_company}
use Rattle.references.proofs.References.{any_company_lem}
use Rattle.group_references.proofs.met_company.Goals as goal

-- the wildcard is written out, so that another code in the test is refused by its number
pub returns-then-company-eq-ANY_COMPANY : goal.returns-then-company-eq-ANY_COMPANY
returns-then-company-eq-ANY_COMPANY c =
    let company = c.args.company in
    let q : eqb company any_company ≡ true = rw any_company_lem (eq-eqb company 2760736 c.if-company-eq-ANY_COMPANY.true) in
    rw q

pub returns : goal.returns
returns c =
    let company = c.args.company in
    let q : eqb company any_company ≡ false = rw any_company_lem (ne_eqb company 2760736 c.if-company-eq-ANY_COMPANY.false) in
    rw q c.names_at.ensures
