-- `count_for_stations` meets its contract: the rows in use name what the tables name. Assumes nothing.
use mathlib.Core.Path.{sym, ◌∙◌}
use Rattle.keys.proofs.Among.{keys_counted}
use Rattle.references.proofs.count_for_stations.Goals as goal

pub returns : goal.returns
returns c k a =
    record {
      countries = a.countries ∙ sym (keys_counted _ _ _ c.used_rows.ensures);
      zones = a.zones ∙ sym (keys_counted _ _ _ c.used_rows-2.ensures);
    }
