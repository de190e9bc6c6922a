-- `fresh_texts::same_texts` meets its contract: each file's texts by its columns. Assumes nothing.
use Rattle.fresh_texts.proofs.same_texts.Goals as goal

pub returns-in-Company : goal.returns-in-Company
returns-in-Company c = rw c.in-Company.is c.same_company.ensures

pub returns-in-Country : goal.returns-in-Country
returns-in-Country c = rw c.in-Country.is c.same_columns.ensures

pub returns-in-Trnsmode : goal.returns-in-Trnsmode
returns-in-Trnsmode c = rw c.in-Trnsmode.is c.same_columns-in-Trnsmode.ensures
