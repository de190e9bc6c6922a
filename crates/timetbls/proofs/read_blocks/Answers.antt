-- `timetbls::read_blocks` meets its contract: a stray line is the first fault, or the blocks say all. Assumes nothing.
use Prim.Native.Nat.{ℕ}
use mathlib.Core.Path.{sym}
use lib.ListN.{length-replicate}
use Rattle.marks.proofs.MarkLaws.{none_marked}
use Rattle.block_repeats.proofs.ReadLaws.{blocks_ready, read_stray, read_all}
use Rattle.timetbls.proofs.read_blocks.Goals as goal

pub walk_blocks-requires : goal.walk_blocks-requires
walk_blocks-requires c =
    blocks_ready _ _ _ c.requires _ c.stray_test.ensures c.in-Ok.is _ none_marked

pub returns-in-Err : goal.returns-in-Err
returns-in-Err c =
    read_stray _ _ _ _ _ _ _ _ _ c.stray_test.ensures _ c.in-Err.is

pub returns-in-Ok : goal.returns-in-Ok
returns-in-Ok c =
    read_all _ _ _ _ _ _ _ _ _ c.stray_test.ensures c.in-Ok.is _ c.count_for_blocks-counts.ensures
    _ _ c.walk_blocks.ensures c.walk_blocks.auto.t

pub slice_bounds-walk_blocks-end : goal.slice_bounds-walk_blocks-end
slice_bounds-walk_blocks-end c = sym (length-replicate {A = ℕ} 524288 0)
