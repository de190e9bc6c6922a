-- `block_legs::line_in_range` meets its contract: a line that names no stops is in range, and of any other its row. Assumes nothing.
use mathlib.Core.Path.{ap, sym, ◌∙◌}
use borrow.Author.Tests.{not-true}
use Rattle.iff_rules.specs.Legs.{reach_of, in_range}
use Rattle.legs.specs.Rows.{names_stops}
use Rattle.block_legs.specs.Sight.{line_row}
use Rattle.legs.proofs.SpanLaws.{no_stops}
use Rattle.block_legs.proofs.RowLaws.{line_tag}
use Rattle.block_legs.proofs.line_in_range.Goals as goal

pub returns-then-not-names_stops : goal.returns-then-not-names_stops
returns-then-not-names_stops c =
    let a = c.args in
    let r = line_row a.form a.n a.line.now in
    let t = line_tag a.form a.n a.line.now ∙ sym c.first_byte.ensures in
    no_stops a.n r (ap names_stops t ∙ sym c.names_stops.ensures ∙ not-true _ c.if-not-names_stops.true-raw)

pub returns : goal.returns
returns c =
    let a = c.args in
    c.is_in_range.ensures ∙ ap (in_range reach_of a.n) c.line_row.ensures
