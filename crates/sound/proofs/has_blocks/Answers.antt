-- `sound::has_blocks` meets its contract: no room for a row, or what the first word says. Assumes nothing.
use Rattle.sound.proofs.WholeLaws.{no_room, by_first_word}
use Rattle.sound.proofs.has_blocks.Goals as goal

pub returns-then-t-lt-BLOCK_WIDTH : goal.returns-then-t-lt-BLOCK_WIDTH
returns-then-t-lt-BLOCK_WIDTH c = no_room c.args.t.now c.if-t-lt-BLOCK_WIDTH.true

pub returns : goal.returns
returns c = by_first_word c.args.t.now c.if-t-lt-BLOCK_WIDTH.false
