-- `block_lines::record_test` meets its contract: each way out is one of the laws of a record. Assumes nothing.
use Rattle.std.proofs.Common.{rules, ◌≡◌, Err}
use mathlib.Core.Path.{refl, ◌∙◌}
use Rattle.iff_rules.specs.Rows.{Context}
use Rattle.records.specs.Layouts.{line_of}
use Rattle.block_lines.specs.Lines.{keys_from}
use Rattle.block_lines.proofs.StepLaws.{has_room, layout_fails, layout_passes}
use Rattle.block_lines.proofs.record_test.Goals as goal

pub returns-in_err-read_line : goal.returns-in_err-read_line
unfolding keys_from
returns-in_err-read_line c =
    let own : Context = let a = c.args in keys_from a.form a.counts a.companies.now a.modes.now a.stations.now a.footnotes.now in
    let a = c.args in
    let handed : c.from_residual.result ≡ Err c.in_err-read_line.field-0.0 = search rules in
    handed ∙ (layout_fails own a.fresh a.stops (line_of a.line.now a.ended) a.letter _ c.requires c.block_record-kind.ensures
    _ _ _ c.read_line.ensures _ c.in_err-read_line.was)

pub returns : goal.returns
unfolding keys_from
returns c =
    let own : Context = let a = c.args in keys_from a.form a.counts a.companies.now a.modes.now a.stations.now a.footnotes.now in
    let a = c.args in
    layout_passes own a.fresh a.stops (line_of a.line.now a.ended) a.letter _ c.requires c.block_record-kind.ensures
    _ _ _ c.read_line.ensures refl c.in_ok-read_line.was _ (c.row_test.ensures a.form)

pub read_line-requires : goal.read_line-requires
read_line-requires c = has_room _ _ _ c.block_record-kind.ensures
