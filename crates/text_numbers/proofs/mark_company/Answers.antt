-- `text_numbers::mark_company` meets its contract. Assumes nothing.
use Rattle.text_numbers.specs.Numbers.{columns_number}
use Rattle.text_numbers.proofs.NumberLaws.{both_marked}
use Rattle.text_numbers.proofs.mark_company.Goals as goal

pub returns : goal.returns
returns c numbers m =
    let a = c.args in
    both_marked a.marks.now numbers _ _ (columns_number 4 14 a.line.now) (columns_number 15 45 a.line.now) _ _ c.mark.ensures
    c.columns_number-code.ensures c.mark-2.ensures c.columns_number-name.ensures m
