-- A number below 2400 is below 10000 too, so a time's second test is the turn's. Assumes nothing.
use native.Mathlib.Omega.{arith}
use borrow.Author.Tests.{lt-ltb, le-ltb}
use Rattle.iff.specs.Times.{is_time, is_turn}
use Rattle.clock.proofs.is_turn.Goals as goal

pub returns-then-t-lt2400 : goal.returns-then-t-lt2400
unfolding is_time is_turn
returns-then-t-lt2400 c =
    let t = c.args.t in
    rw (c.is_time.ensures, lt-ltb t 2400 c.if-t-lt2400.true, lt-ltb t 10000 (omega arith))

pub returns : goal.returns
unfolding is_turn
returns c = rw (le-ltb _ _ c.if-t-lt2400.false)
