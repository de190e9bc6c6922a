-- `leg_marks::mark_legs` meets its contract: the legs from `first` up to `leg` have a mark more. Assumes nothing.
use Prim.Native.Nat.{◌<◌}
use native.Mathlib.Omega.{arith}
use lib.ListN.{length}
use Rattle.leg_marks.proofs.MarkLaws.{marked_twice, marked_all, marking_none, marking_next}
use Rattle.leg_marks.proofs.mark_legs.Goals as goal

pub returns-then-marks-leg-ne0 : goal.returns-then-marks-leg-ne0
returns-then-marks-leg-ne0 c =
    let w = c.loop-leg in
    let q = c.if-marks-leg-ne0.true in
    marked_twice _ w.marks _ _ w.leg (omega (arith, c.loop-leg-test.true)) (omega arith) w.invariant

pub loop-leg-preserved : goal.loop-leg-preserved
loop-leg-preserved c =
    let w = c.loop-leg in
    let a = c.args in
    let l : w.leg < length w.marks = omega arith in
    marking_next a.marks.now w.marks a.first a.last w.leg (omega (arith, c.loop-leg-test.true)) l
    (omega (arith, c.if-marks-leg-ne0.false)) w.invariant

pub returns : goal.returns
returns c = marked_all _ _ _ _ _ (omega (arith, c.loop-leg-test.false)) c.loop-leg.invariant

pub loop-leg-init : goal.loop-leg-init
loop-leg-init c = marking_none c.args.marks.now c.args.first c.args.last c.requires.0
