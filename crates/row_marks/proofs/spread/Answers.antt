-- `row_marks::spread` meets its contract. Assumes nothing.
use Prim.Native.Nat.{◌/◌, ◌%◌}
use mathlib.Core.Path.{refl}
use native.Mathlib.Omega.{arith}
use Rattle.row_marks.proofs.RememberLaws.{halves_fit}
use Rattle.row_marks.proofs.spread.Goals as goal

pub overflow_add-result : goal.overflow_add-result
overflow_add-result c =
    let key = c.args.key in
    record { fits = halves_fit (key % 4294967296) (key / 4294967296) (omega arith) (omega (arith, c.ranges.key)) }

pub returns : goal.returns
returns c = refl
