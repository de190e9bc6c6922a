-- `block_repeats::clear_blocks` meets its contract. Assumes nothing.
use Rattle.block_repeats.proofs.ReadLaws.{cleared}
use Rattle.block_repeats.proofs.clear_blocks.Goals as goal

pub returns : goal.returns
returns c =
    let a = c.args in
    cleared a.t.now c.clear.new.t c.clear.ensures
