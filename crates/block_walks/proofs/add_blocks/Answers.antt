-- `block_walks::add_blocks` meets its contract: the blocks left say what all blocks were to say. Assumes nothing.
use mathlib.Core.Path.{◌≡◌, sym, ◌∙◌}
use lib.ListN.{length}
use Rattle.block_walks.proofs.AddLaws.{adding_start, addable, adding_faulty, adding_next, adding_end}
use Rattle.block_walks.proofs.add_blocks.Goals as goal

pub loop-at-init : goal.loop-at-init
loop-at-init c = adding_start _ _ _ _ _ _ _ _ _ _ _ c.requires _ c.no_keys-run.ensures

pub next_head-found-requires : goal.next_head-found-requires
next_head-found-requires c = (c.loop-at-test.true, c.loop-at.invariant.clean)

pub add_block-requires : goal.add_block-requires
add_block-requires c =
    let l = c.loop-at in
    addable _ _ _ _ _ _ _ _ _ _ l.t l.marks l.at l.row l.done l.run l.sure l.invariant _ c.next_head-found.ensures

pub returns-in-Err : goal.returns-in-Err
returns-in-Err c =
    let l = c.loop-at in
    adding_faulty _ _ _ _ _ _ _ _ _ _ l.t l.marks l.at l.row l.done l.run l.sure l.invariant _ c.next_head-found.ensures
    _ _ _ c.add_block.ensures c.add_block.auto.t _ _ c.in-Err.is

pub loop-at-preserved : goal.loop-at-preserved
loop-at-preserved c =
    let l = c.loop-at in
    adding_next _ _ _ _ _ _ _ _ _ _ l.t l.marks l.at l.row l.done l.run l.sure l.invariant _ c.next_head-found.ensures
    _ _ _ c.add_block.ensures c.add_block.auto.t _ _ _ c.in-Ok.is _ c.both-sure.ensures

pub returns : goal.returns
returns c =
    let l = c.loop-at in
    adding_end _ _ _ _ _ _ _ _ _ _ l.t l.marks l.at l.row l.done l.run l.sure l.invariant c.loop-at-test.false

-- there are as many marks as there were
pub shape_of-marks-in-Err : goal.shape_of-marks-in-Err
shape_of-marks-in-Err c =
    let marks_kept : length c.loop-at.marks ≡ length c.args.marks.now = c.loop-at.invariant.holding.marked.wide ∙ sym c.requires.holding.marked.wide in
    c.add_block.auto.marks ∙ marks_kept

pub shape_of-marks : goal.shape_of-marks
shape_of-marks c =
    let marks_kept : length c.loop-at.marks ≡ length c.args.marks.now = c.loop-at.invariant.holding.marked.wide ∙ sym c.requires.holding.marked.wide in
    marks_kept
