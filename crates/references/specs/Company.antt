-- DELIVERY's own company.
use Rattle.std.specs.Prelude.{ℕ, List}
use Rattle.iff.specs.Lists.{has}
use Rattle.iff.specs.Words.{own_company}
use Rattle.iff.specs.declared.RowFile.TheVariants.{Company}
use Rattle.iff.specs.declared.File.TheVariants.{Delivery, Rows}
use Rattle.iff.specs.declared.Reason.TheVariants.{Reference}
use Rattle.iff_rules.specs.Load.{fault_unless}
use Rattle.keys.specs.Lookup.{keys_in}
use Rattle.iff.specs.Refusals.{Verdict, at_place}

-- looked up in COMPANY's table
abbrev pub company_named : List ℕ → List ℕ → Verdict
company_named delivery companies = fault_unless (has (own_company delivery) (keys_in (Rows Company) companies)) Reference (at_place Delivery 0 1)
