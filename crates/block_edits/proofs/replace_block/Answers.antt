-- `block_edits::replace_block` meets its contract: the rows behind are moved, and the block is written before them. Assumes nothing.
use native.Mathlib.Omega.{arith}
use Rattle.block_edits.proofs.ReplaceLaws.{replaced}
use Rattle.block_edits.proofs.replace_block.Goals as goal

pub write_block-requires : goal.write_block-requires
write_block-requires c =
    record { whole = c.requires.whole; room = omega (arith, c.requires.roomy) }

pub returns : goal.returns
returns c =
    let a = c.args in
    replaced a.form a.block.now a.t.now a.used a.from a.to a.lines a.stops c.requires
    c.move_rest.new.t c.move_rest.ensures c.write_block.new.t c.write_block.ensures
