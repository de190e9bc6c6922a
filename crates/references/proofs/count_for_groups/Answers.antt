-- `count_for_groups` meets its contract: the rows in use name what the tables name. Assumes nothing.
use mathlib.Core.Path.{sym, ◌∙◌}
use Rattle.keys.proofs.Among.{keys_counted}
use Rattle.references.proofs.count_for_groups.Goals as goal

pub returns : goal.returns
returns c k se a =
    record {
      companies = a.companies ∙ sym (keys_counted _ _ _ c.used_rows.ensures);
      modes = a.modes ∙ sym (keys_counted _ _ _ c.used_rows-2.ensures);
      stations = a.stations ∙ sym (keys_counted _ _ _ c.used_rows-3.ensures);
      services = a.services;
      xfootnotes = a.xfootnotes ∙ sym (keys_counted _ _ _ c.used_rows-4.ensures);
    }
