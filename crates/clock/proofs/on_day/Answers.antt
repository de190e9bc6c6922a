-- The sum fits, and is what the definition says. Assumes nothing.
use Prim.Native.Nat.{◌*◌}
use native.Mathlib.Omega.{arith}
use lib.IntN.{pos}
use Rattle.clock.proofs.MinuteLaws.{mag_plus, plus_fits, plus_is}
use Rattle.clock.proofs.on_day.Goals as goal

pub overflow_add-result : goal.overflow_add-result
overflow_add-result c =
    let s = c.args in
    plus_fits s.m.0 (s.day * 1440) (omega arith) (omega arith)

pub returns : goal.returns
returns c =
    let s = c.args in
    let e = plus_is s.m.0 (s.day * 1440) (omega arith) (omega arith) in
    (e, rw e (omega (arith, mag_plus s.m.0 (pos (s.day * 1440)))))
