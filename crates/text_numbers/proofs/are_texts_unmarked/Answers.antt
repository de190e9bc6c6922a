-- `text_numbers::are_texts_unmarked` meets its contract: each file's texts by its columns. Assumes nothing.
use Rattle.iff.specs.Lists.{any}
use Rattle.text_numbers.specs.Numbers.{columns_number}
use Rattle.text_numbers.proofs.NumberLaws.{not_one}
use Rattle.text_numbers.proofs.are_texts_unmarked.Goals as goal

pub returns-in-Company : goal.returns-in-Company
returns-in-Company c numbers m e = rw c.in-Company.is (c.is_company_unmarked.ensures numbers m e)

pub returns-in-Country : goal.returns-in-Country
returns-in-Country c numbers m e =
    let a = c.args in
    rw c.in-Country.is
    (not_one numbers (columns_number 7 37 a.line.now) _ c.columns_number.ensures (c.is_unmarked.ensures numbers m e))

pub returns-in-Trnsmode : goal.returns-in-Trnsmode
returns-in-Trnsmode c numbers m e =
    let a = c.args in
    rw c.in-Trnsmode.is
    (not_one numbers (columns_number 5 35 a.line.now) _ c.columns_number-in-Trnsmode.ensures (c.is_unmarked-in-Trnsmode.ensures numbers m e))

pub returns-in-Stations : goal.returns-in-Stations
unfolding any
returns-in-Stations c numbers m e = rw c.in-Stations.is
