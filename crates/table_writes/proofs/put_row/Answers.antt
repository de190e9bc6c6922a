-- `put_row` meets its contract: the part of the table that row `i` has is the row. Assumes nothing.
use Prim.Native.Nat.{◌+◌, ◌-◌, ◌*◌}
use mathlib.Core.Path.{◌≡◌}
use native.Mathlib.Omega.{arith}
use lib.Seq.{drop-drop}
use Rattle.iff.specs.Tables.{put_row}
use Rattle.table_writes.proofs.put_row.Goals as goal

pub returns : goal.returns
unfolding put_row
returns c =
    let at = c.args.i * c.args.w in
    let k : at + c.args.w - at ≡ c.args.w = omega arith in
    rw (c.copy_from_slice.ensures.after, k, drop-drop)
