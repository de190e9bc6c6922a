-- The word of each class. Assumes nothing.
use borrow.Author.Rules.{rules}
use borrow.Author.Tests.{ne_eqb}
use Rattle.records.specs.Layouts.{word_by}
use Rattle.record_lines.proofs.word_of.Goals as goal

pub number-requires : goal.number-requires
unfolding word_by
number-requires c = search rules

pub number-requires-in-115 : goal.number-requires-in-115
unfolding word_by
number-requires-in-115 c = search rules

pub stop_of-requires : goal.stop_of-requires
unfolding word_by
stop_of-requires c = search rules

pub company_or_any-requires : goal.company_or_any-requires
unfolding word_by
company_or_any-requires c = search rules

pub code-requires : goal.code-requires
unfolding word_by
code-requires c = search rules

pub returns-in-110 : goal.returns-in-110
unfolding word_by
returns-in-110 c = rw c.in-110.is c.number.ensures

pub returns-in-115 : goal.returns-in-115
unfolding word_by
returns-in-115 c = rw (c.in-115.is, c.stop_of.ensures, c.number-in-115.ensures)

pub returns-in-97 : goal.returns-in-97
unfolding word_by
returns-in-97 c = rw c.in-97.is c.company_or_any.ensures

pub returns-in_default : goal.returns-in_default
unfolding word_by
returns-in_default c = simp (ne_eqb _ _ c.in_default.in_default-own.rest.0.0.1, ne_eqb _ _ c.in_default.in_default-own.rest.0.1, ne_eqb _ _ c.in_default.in_default-own.rest.1)
    c.code.ensures
