-- `marks::mark` meets its contract. Assumes nothing.
use native.Mathlib.Omega.{arith}
use lib.ListN.{length-set}
use Rattle.marks.proofs.MarkLaws.{both_put}
use Rattle.marks.proofs.mark.Goals as goal

pub bounds-marks-o : goal.bounds-marks-o
bounds-marks-o c =
    omega (arith, c.other_slot-o.ensures, c.requires, length-set c.args.marks.now c.slot-k.result c.mix.result)

pub bounds-marks-o-2 : goal.bounds-marks-o-2
bounds-marks-o-2 c =
    omega (arith, c.other_slot-o.ensures, c.requires, length-set c.args.marks.now c.slot-k.result c.mix.result)

pub returns : goal.returns
returns c =
    let a = c.args in
    both_put a.marks.now a.key _ _ _ _ _ _ c.slot-k.ensures c.print_of.ensures c.mix.ensures
    c.other_slot-o.ensures c.other_print.ensures c.mix-2.ensures
