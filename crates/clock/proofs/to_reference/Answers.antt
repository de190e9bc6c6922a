-- The sum and the difference fit, and are what the definition says. Assumes nothing.
use Prim.Native.Nat.{◌*◌}
use native.Mathlib.Omega.{arith}
use lib.IntN.{pos}
use Rattle.clock.proofs.MinuteLaws.{mag_plus, mag_minus, plus_fits, plus_is, minus_fits, minus_is}
use Rattle.clock.proofs.to_reference.Goals as goal

pub returns-then-earlier : goal.returns-then-earlier
returns-then-earlier c =
    let s = c.args in
    let e = plus_is s.m.0 (s.hours * 60) (omega arith) (omega arith) in
    (simp (e, c.if-earlier.true), simp e (omega (arith, mag_plus s.m.0 (pos (s.hours * 60)))))

pub returns-else-earlier : goal.returns-else-earlier
returns-else-earlier c =
    let s = c.args in
    let e = minus_is s.m.0 (s.hours * 60) (omega arith) (omega arith) in
    (simp (e, c.if-earlier.false), simp e (omega (arith, mag_minus s.m.0 (pos (s.hours * 60)))))

pub overflow_add-result : goal.overflow_add-result
overflow_add-result c = let s = c.args in plus_fits s.m.0 (s.hours * 60) (omega arith) (omega arith)

pub overflow_sub-result : goal.overflow_sub-result
overflow_sub-result c = let s = c.args in minus_fits s.m.0 (s.hours * 60) (omega arith) (omega arith)
