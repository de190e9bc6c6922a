-- `found_by_blocks` meets its contract: the row that is found was tested, and is one of the first rows. Assumes nothing.
use mathlib.Core.Path.{refl}
use native.Mathlib.Omega.{arith}
use Rattle.iff.specs.Tables.{row_width, key_tag, key_word}
use Rattle.iff.specs.declared.File.TheVariants.{Timetbls}
use Rattle.keys.proofs.Among.{row_among, row_hit, hit_none}
use Rattle.lookups.proofs.found_by_blocks.Goals as goal

pub keyed_at-requires : goal.keyed_at-requires
keyed_at-requires c =
    (omega arith, row_among _ c.args.used _ _ c.rows_among-rows.ensures _ c.loop-i-test.true)

pub next_block-i-requires : goal.next_block-i-requires
next_block-i-requires c = (c.loop-i-test.true, (row_among _ c.args.used _ _ c.rows_among-rows.ensures _ c.loop-i-test.true))

pub returns-then-keyed_at : goal.returns-then-keyed_at
returns-then-keyed_at c =
    let a = c.args in
    row_hit Timetbls (row_width Timetbls) (key_tag Timetbls) (key_word Timetbls) refl refl refl a.t.now a.used a.key _
    c.rows_among-rows.ensures _ c.loop-i-test.true _ c.keyed_at.ensures c.if-keyed_at.true

pub rows_among-rows-requires : goal.rows_among-rows-requires
rows_among-rows-requires c = omega arith

pub loop-i-init : goal.loop-i-init
loop-i-init c = omega arith

pub loop-i-smaller : goal.loop-i-smaller
loop-i-smaller c = omega (arith, c.next_block-i.ensures)

pub loop-i-preserved : goal.loop-i-preserved
loop-i-preserved c = omega (arith, c.next_block-i.ensures)

pub returns : goal.returns
returns c = hit_none _ _ _ _
