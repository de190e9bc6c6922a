-- Each file's rows. Assumes nothing.
use borrow.Author.Rules.{rules}
use Rattle.iff_rules.specs.Meaning.{row_meaning}
use Rattle.meanings.proofs.row_means.Goals as goal

pub company_means-requires : goal.company_means-requires
unfolding row_meaning
company_means-requires c = search rules

pub country_means-requires : goal.country_means-requires
unfolding row_meaning
country_means-requires c = search rules

pub returns-in-Company : goal.returns-in-Company
unfolding row_meaning
returns-in-Company c = rw c.in-Company.is c.company_means.ensures

pub returns-in-Country : goal.returns-in-Country
unfolding row_meaning
returns-in-Country c = rw c.in-Country.is c.country_means.ensures

pub returns-in-Trnsmode : goal.returns-in-Trnsmode
unfolding row_meaning
returns-in-Trnsmode c = rw c.in-Trnsmode.is

pub returns-in-Stations : goal.returns-in-Stations
unfolding row_meaning
returns-in-Stations c = rw c.in-Stations.is
