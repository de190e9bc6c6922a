-- `text_numbers::mark_texts` meets its contract: each file's texts by its columns. Assumes nothing.
use mathlib.Core.List.{append-nil}
use Rattle.text_numbers.specs.Numbers.{columns_number}
use Rattle.text_numbers.proofs.NumberLaws.{one_marked}
use Rattle.text_numbers.proofs.mark_texts.Goals as goal

pub returns-in-Company : goal.returns-in-Company
returns-in-Company c numbers m =
    rw c.in-Company.is (c.mark_company.ensures numbers m)

pub returns-in-Country : goal.returns-in-Country
returns-in-Country c numbers m =
    let a = c.args in
    rw c.in-Country.is
    (one_marked a.marks.now numbers _ (columns_number 7 37 a.line.now) _ c.mark.ensures c.columns_number.ensures m)

pub returns-in-Trnsmode : goal.returns-in-Trnsmode
returns-in-Trnsmode c numbers m =
    let a = c.args in
    rw c.in-Trnsmode.is
    (one_marked a.marks.now numbers _ (columns_number 5 35 a.line.now) _ c.mark-in-Trnsmode.ensures c.columns_number-in-Trnsmode.ensures m)

pub returns-in-Stations : goal.returns-in-Stations
returns-in-Stations c numbers m = rw (c.in-Stations.is, append-nil) m
