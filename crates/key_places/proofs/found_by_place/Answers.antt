-- `found_by_place` meets its contract: the row that is found was tested, and is one of the first rows. Assumes nothing.
use Rattle.keys.proofs.Lookup.{key_column}
use Rattle.keys.proofs.Among.{row_among, row_hit}
use Rattle.key_places.proofs.found_by_place.Goals as goal

pub keyed_at-requires : goal.keyed_at-requires
keyed_at-requires c = (
  key_column c.args.file _ _ _ c.row_width-w.ensures.is c.key_tag-tag.ensures c.key_word-col.ensures,
  row_among _ c.args.used _ _ c.rows_among-rows.ensures _ c.if-row-rows.true,
)

pub returns-then-keyed_at : goal.returns-then-keyed_at
returns-then-keyed_at c =
    let a = c.args in
    row_hit a.file _ _ _ c.row_width-w.ensures.is c.key_tag-tag.ensures c.key_word-col.ensures a.t.now a.used
    a.key _ c.rows_among-rows.ensures _ c.if-row-rows.true _ c.keyed_at.ensures c.if-keyed_at.true
