-- `find_side` meets its contract: the service's rows, what the lookup tells of the stop's row, and its word. Assumes nothing.
use mathlib.Core.Path.{ap, sym, ◌∙◌}
use Rattle.iff.specs.Words.{named}
use Rattle.changing.proofs.find_side.Goals as goal

pub returns : goal.returns
returns c =
    let g = c.requires in
    record {
      rows = g.rows;
      inside = g.inside;
      row = c.stop_row-row.ensures;
      station = c.word_of.ensures ∙ ap named (sym c.stop_row-row.ensures.is);
    }
