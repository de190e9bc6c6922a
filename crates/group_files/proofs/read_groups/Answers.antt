-- `group_files::read_groups` meets its contract: the rows in use name what the tables name. Assumes nothing.
use Rattle.group_files.proofs.WholeLaws.{done_for}
use Rattle.group_files.proofs.read_groups.Goals as goal

pub returns-then-names_others : goal.returns-then-names_others
returns-then-names_others c =
    done_for _ _ _ _ (λ k a. c.count_for_groups-counts.ensures k _ a) _ _ _ _ _ _ c.add_placed.ensures

pub returns : goal.returns
returns c =
    done_for _ _ _ _ (λ k a. c.count_for_groups-counts.ensures k _ a) _ _ _ _ _ _ c.add_groups.ensures
