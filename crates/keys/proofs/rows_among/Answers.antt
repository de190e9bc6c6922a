-- `rows_among` meets its contract: a product tells what a division would. Assumes nothing.
use Prim.Native.Nat.{◌/◌}
use mathlib.Core.Path.{sym}
use native.Mathlib.Nat.{le-div_iff_mul-le}
use native.Mathlib.Omega.{arith}
use borrow.Author.Tests.{lt-ltb, le-ltb}
use lib.ListN.{length}
use Rattle.keys.proofs.Among.{at_most_all}
use Rattle.keys.proofs.PlaceLaws.{product_fits}
use Rattle.keys.proofs.rows_among.Goals as goal

pub overflow_mul-used : goal.overflow_mul-used
overflow_mul-used c =
    let a = c.args in
    omega (arith, product_fits a.used a.w c.if-used-lt4294967296.true c.if-w-lt4294967296.true)

pub returns-then-used-w : goal.returns-then-used-w
returns-then-used-w c =
    let a = c.args in
    sym (at_most_all a.used (length a.t.now / a.w) ((le-div_iff_mul-le c.requires).1 c.if-used-w.true))

pub returns-then-used-room : goal.returns-then-used-room
returns-then-used-room c = rw (lt-ltb _ _ c.if-used-room.true)

pub returns : goal.returns
returns c = rw (le-ltb _ _ c.if-used-room.false)
