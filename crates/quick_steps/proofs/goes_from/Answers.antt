-- The two ends of a letter's places. Assumes nothing.
use native.Mathlib.Omega.{arith}
use Rattle.quick_steps.proofs.PlaceLaws.{before_first, behind_last, in_its_place}
use Rattle.quick_steps.proofs.goes_from.Goals as goal

pub returns-then-place-first : goal.returns-then-place-first
returns-then-place-first c =
    let a = c.args in
    before_first a.place a.first a.last a.to (omega (arith, c.if-place-first.true))

pub returns-then-last-place : goal.returns-then-last-place
returns-then-last-place c =
    let a = c.args in
    behind_last a.place a.first a.last a.to (omega (arith, c.if-place-first.false)) (omega (arith, c.if-last-place.true))

pub returns : goal.returns
returns c =
    let a = c.args in
    in_its_place a.place a.first a.last a.to (omega (arith, c.if-place-first.false)) (omega (arith, c.if-last-place.false))
