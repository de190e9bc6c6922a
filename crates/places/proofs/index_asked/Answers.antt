-- `index_asked` meets its contract: each row that is read is one of the first rows, and no slot is added. Assumes nothing.
use mathlib.Core.Path.{refl}
use native.Mathlib.Omega.{arith}
use Rattle.keys.proofs.Among.{row_among}
use Rattle.places.proofs.index_asked.Goals as goal

pub word_at-service-requires : goal.word_at-service-requires
word_at-service-requires c =
    (omega arith, row_among _ c.args.used _ _ c.rows_among-rows.ensures _ c.loop-i-test.true)

pub next_block-i-requires : goal.next_block-i-requires
next_block-i-requires c =
    (c.loop-i-test.true, (row_among _ c.args.used _ _ c.rows_among-rows.ensures _ c.loop-i-test.true))

pub rows_among-rows-requires : goal.rows_among-rows-requires
rows_among-rows-requires c = omega arith

pub loop-i-init : goal.loop-i-init
loop-i-init c = refl

pub loop-i-smaller : goal.loop-i-smaller
loop-i-smaller c = omega (arith, c.next_block-i.ensures)
