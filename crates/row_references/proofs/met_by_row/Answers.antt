-- `met_by_row` meets its contract: of these files only STATIONS names anything. Assumes nothing.
use Rattle.iff_rules.specs.References.{met_by_row}
use Rattle.row_references.proofs.met_by_row.Goals as goal

pub returns-in-Company : goal.returns-in-Company
unfolding met_by_row
returns-in-Company c k a = rw c.in-Company.is

pub returns-in-Country : goal.returns-in-Country
unfolding met_by_row
returns-in-Country c k a = rw c.in-Country.is

pub returns-in-Trnsmode : goal.returns-in-Trnsmode
unfolding met_by_row
returns-in-Trnsmode c k a = rw c.in-Trnsmode.is

pub returns-in-Stations : goal.returns-in-Stations
returns-in-Stations c k a = rw c.in-Stations.is (c.met_station.ensures k a)
