-- The test of each class. Assumes nothing.
use borrow.Author.Rules.{rules}
use borrow.Author.Tests.{ne_eqb}
use Rattle.field_words.specs.Fits.{word_fits}
use Rattle.field_words.proofs.fits_class.Goals as goal

pub ten_to-requires : goal.ten_to-requires
unfolding word_fits
ten_to-requires c = search rules

pub is_number_or_any-requires : goal.is_number_or_any-requires
unfolding word_fits
is_number_or_any-requires c = search rules

pub is_code-requires : goal.is_code-requires
unfolding word_fits
is_code-requires c = search rules

pub returns-in-110 : goal.returns-in-110
unfolding word_fits
returns-in-110 c = rw (c.in-110.is, c.ten_to.ensures)

pub returns-in-115 : goal.returns-in-115
unfolding word_fits
returns-in-115 c = rw c.in-115.is

pub returns-in-97 : goal.returns-in-97
unfolding word_fits
returns-in-97 c = rw c.in-97.is c.is_number_or_any.ensures

pub returns-in_default : goal.returns-in_default
unfolding word_fits
returns-in_default c = simp (ne_eqb _ _ c.in_default.in_default-own.rest.0.0.1, ne_eqb _ _ c.in_default.in_default-own.rest.0.1, ne_eqb _ _ c.in_default.in_default-own.rest.1)
    c.is_code.ensures
