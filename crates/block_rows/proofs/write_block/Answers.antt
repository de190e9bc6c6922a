-- `block_rows::write_block` meets its contract: the rows that are left to put make the whole. Assumes nothing.
use native.Mathlib.Omega.{arith}
use Rattle.block_rows.proofs.WriteLaws.{write_start, line_readable, line_room, write_next, write_end}
use Rattle.block_rows.proofs.write_block.Goals as goal

pub loop-done-init : goal.loop-done-init
loop-done-init c = write_start _ _ _ _ _ _ _ _ (cc) (cc) c.requires

pub put_line-requires : goal.put_line-requires
put_line-requires c =
    let s = c.in-Some.ensures.steps in
    let room = line_room _ _ _ _ _ _ _ _ _ _ _ c.requires c.loop-done.invariant s.0 in
    (line_readable _ _ _ _ _ _ _ _ _ _ _ c.requires c.loop-done.invariant s.0, omega (arith, room, s.1))

pub loop-done-preserved : goal.loop-done-preserved
loop-done-preserved c =
    let s = c.in-Some.ensures.steps in
    rw s.2
    (write_next _ _ _ _ _ _ _ _ _ _ _ c.requires c.loop-done.invariant s.0 _ (rw s.1 at c.put_line.ensures) c.put_line.auto.t)

pub returns : goal.returns
returns c = write_end _ _ _ _ _ _ _ _ _ c.requires c.loop-done.invariant c.in-None.ensures.steps.0.0
