-- `text_numbers::is_company_unmarked` meets its contract. Assumes nothing.
use mathlib.Core.Bool.{false≢true}
use borrow.Author.Tests.{not-false}
use Rattle.text_numbers.specs.Numbers.{columns_number}
use Rattle.text_numbers.proofs.NumberLaws.{neither}
use Rattle.text_numbers.proofs.is_company_unmarked.Goals as goal

pub returns : goal.returns
returns c numbers m e =
    let a = c.args in
    neither numbers (columns_number 4 14 a.line.now) (columns_number 15 45 a.line.now) _ _ c.columns_number.ensures
    c.columns_number-2.ensures (c.is_unmarked.ensures numbers m (not-false _ c.if-not-is_unmarked.false-raw))
    (c.is_unmarked-2.ensures numbers m e)

pub returns-then-not-is_unmarked : goal.returns-then-not-is_unmarked
returns-then-not-is_unmarked c numbers m e = absurd (false≢true e)
