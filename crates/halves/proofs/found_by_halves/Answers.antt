-- `found_by_halves` meets its contract: the row that is found was tested, and is one of the first rows. Assumes nothing.
use native.Mathlib.Omega.{arith}
use Rattle.keys.proofs.Lookup.{key_column}
use Rattle.keys.proofs.Among.{row_among, row_hit, hit_none}
use Rattle.halves.proofs.found_by_halves.Goals as goal

pub head_row-at-requires : goal.head_row-at-requires
head_row-at-requires c = (
  omega arith,
  rw (← c.row_width-w.ensures.is) (row_among _ c.args.used _ _ c.rows_among-rows.ensures _ (omega arith)),
)

-- the row that is tested is one of the first
pub keyed_at-requires : goal.keyed_at-requires
keyed_at-requires c = (
  key_column c.args.file _ _ _ c.row_width-w.ensures.is c.key_tag-tag.ensures c.key_word-col.ensures,
  row_among _ c.args.used _ _ c.rows_among-rows.ensures _ (omega arith),
)

pub word_at-requires : goal.word_at-requires
word_at-requires c = ((
  key_column c.args.file _ _ _ c.row_width-w.ensures.is c.key_tag-tag.ensures c.key_word-col.ensures,
  row_among _ c.args.used _ _ c.rows_among-rows.ensures _ (omega arith),
))

pub returns-then-keyed_at : goal.returns-then-keyed_at
returns-then-keyed_at c =
    let a = c.args in
    row_hit a.file _ _ _ c.row_width-w.ensures.is c.key_tag-tag.ensures c.key_word-col.ensures a.t.now a.used
    a.key _ c.rows_among-rows.ensures _ (omega arith) _ c.keyed_at.ensures c.if-keyed_at.true

pub loop-low-init : goal.loop-low-init
loop-low-init c = (omega arith, omega arith)

pub loop-low-preserved-then-word_at-key : goal.loop-low-preserved-then-word_at-key
loop-low-preserved-then-word_at-key c = (omega arith, omega arith)

pub loop-low-preserved : goal.loop-low-preserved
loop-low-preserved c = (omega arith, omega arith)

pub returns : goal.returns
returns c = hit_none _ _ _ _
