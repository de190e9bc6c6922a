-- What is left to put is what the fields that are left leave. Assumes nothing.
use Prim.Native.Nat.{◌+◌, ◌-◌}
use mathlib.Core.Path.{◌≡◌}
use native.Mathlib.Omega.{arith}
use lib.ListN.{length}
use Rattle.record_lines.proofs.ColumnLaws.{put_begin, put_inside, put_on, put_end}
use Rattle.records.proofs.RowLaws.{cleared_length}
use Rattle.record_lines.proofs.put_fields.Goals as goal

pub loop-j-init : goal.loop-j-init
loop-j-init c =
    let p = c.requires in
    let k : c.args.first - c.args.first + 1 ≡ 1 = omega arith in
    rw k (put_begin _ _ _ _ _ (length c.args.out.now) _ p.0 p.1 c.clear.ensures)

pub field_word-requires : goal.field_word-requires
field_word-requires c =
    let p = c.requires.0 in
    put_inside _ _ _ _ _ _ _ _ _ c.loop-j-test.true p.in_table c.loop-j.invariant

pub loop-j-preserved : goal.loop-j-preserved
loop-j-preserved c =
    let p = c.requires.0 in
    let k : c.loop-j.j + 1 - c.args.first + 1 ≡ c.loop-j.j - c.args.first + 1 + 1 = omega arith in
    rw k (put_on _ _ _ _ _ _ _ _ _ c.loop-j-test.true p.in_table c.loop-j.invariant _ c.field_word.ensures)

pub returns : goal.returns
returns c =
    put_end _ _ _ _ _ _ _ _ _ c.loop-j-test.false c.loop-j.invariant _
    (cleared_length (length c.args.out.now) _ _ c.clear.ensures)
