-- `count_for_blocks` meets its contract: the rows in use name what the tables name. Assumes nothing.
use mathlib.Core.Path.{sym, ◌∙◌}
use Rattle.keys.proofs.Among.{keys_counted}
use Rattle.references.proofs.count_for_blocks.Goals as goal

pub returns : goal.returns
returns c k a =
    record {
      companies = a.companies ∙ sym (keys_counted _ _ _ c.used_rows.ensures);
      modes = a.modes ∙ sym (keys_counted _ _ _ c.used_rows-2.ensures);
      stations = a.stations ∙ sym (keys_counted _ _ _ c.used_rows-3.ensures);
      footnotes = a.footnotes ∙ sym (keys_counted _ _ _ c.used_rows-4.ensures);
    }
