-- The test of each class. Assumes nothing.
use borrow.Author.Rules.{rules}
use borrow.Author.Tests.{ne_eqb}
use Rattle.records.specs.Layouts.{right_by}
use Rattle.record_lines.proofs.is_right.Goals as goal

pub is_company_or_any-requires : goal.is_company_or_any-requires
unfolding right_by
is_company_or_any-requires c = search rules

pub all_blank-requires : goal.all_blank-requires
unfolding right_by
all_blank-requires c = search rules

pub returns-in-97 : goal.returns-in-97
unfolding right_by
returns-in-97 c = rw c.in-97.is c.is_company_or_any.ensures

pub returns-in-99 : goal.returns-in-99
unfolding right_by
returns-in-99 c = rw (c.in-99.is, c.all_blank.ensures)

pub returns-in_default : goal.returns-in_default
unfolding right_by
returns-in_default c = simp (ne_eqb _ _ c.in_default.in_default-own.rest.0.1, ne_eqb _ _ c.in_default.in_default-own.rest.1)
