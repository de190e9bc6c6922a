-- `found_by_scan` meets its contract: the row that is found was tested, and at the end none is left. Assumes nothing.
use mathlib.Core.Path.{◌∙◌}
use Rattle.iff.specs.Tables.{keyed}
use Rattle.keys.proofs.Blocks.{none_left, one_on}
use Rattle.keys.proofs.Among.{none_found}
use Rattle.lookups.proofs.found_by_scan.Goals as goal

pub loop-i-preserved : goal.loop-i-preserved
loop-i-preserved c =
    let a = c.args in
    c.loop-i.invariant
    ∙ one_on (keyed _ _ a.key) _ a.t.now _ c.loop-i.i c.loop-i-test.true _ c.keyed_at.ensures c.if-keyed_at.false

pub returns : goal.returns
returns c =
    let a = c.args in
    none_found a.file _ _ _ c.row_width-w.ensures.is c.key_tag-tag.ensures c.key_word-col.ensures a.t.now a.used
    a.key _ c.rows_among-rows.ensures (c.loop-i.invariant ∙ none_left (keyed _ _ a.key) _ a.t.now _ c.loop-i.i c.loop-i-test.false)
