-- `block_puts::try_block` meets its contract: a block that is at fault is judged with its service told. Assumes nothing.
use native.Mathlib.Omega.{arith}
use Rattle.block_puts.proofs.AddLaws.{tried_whole, tried_broken, tried_again}
use Rattle.block_puts.proofs.try_block.Goals as goal

pub place_block-requires : goal.place_block-requires
place_block-requires c =
    (c.requires.one.some, c.requires.room)

pub returns-then-new : goal.returns-then-new
returns-then-new c =
    let a = c.args in
    tried_broken a.form a.block.now a.t.now a.counts a.companies.now a.modes.now a.stations.now a.footnotes.now
    a.row a.new c.requires _ _ c.place_block.ensures _ _ c.in-Err.is c.if-new.true

pub judge_again-requires : goal.judge_again-requires
judge_again-requires c =
    omega (arith, c.requires.room, c.place_block.auto.t)

pub returns-in-Ok : goal.returns-in-Ok
returns-in-Ok c =
    let a = c.args in
    tried_whole a.form a.block.now a.t.now a.counts a.companies.now a.modes.now a.stations.now a.footnotes.now
    a.row a.new c.requires _ _ c.place_block.ensures _ _ c.in-Ok.is

pub returns-else-new : goal.returns-else-new
returns-else-new c =
    let a = c.args in
    tried_again a.form a.block.now a.t.now a.counts a.companies.now a.modes.now a.stations.now a.footnotes.now
    a.row a.new c.requires _ _ c.place_block.ensures _ _ c.in-Err.is c.if-new.false
    c.place_block.auto.t _ _ c.judge_again.ensures
