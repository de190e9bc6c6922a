-- The tests are the definition's, in order; the limit is written out, so that another one is refused at the number where it fails. Assumes nothing.
use Prim.Native.Nat.{◌≤◌, ◌<◌}
use native.Mathlib.Omega.{arith}
use borrow.Author.Rules.{rules}
use borrow.Author.Tests.{not-true, not-false, le-ltb, lt-ltb}
use Rattle.iff_rules.specs.Meaning.{block_meaning, most_stops}
use Rattle.meanings.specs.Times.{times_right}
use Rattle.meanings.proofs.block_means.Goals as goal

pub returns-then-stops : goal.returns-then-stops
unfolding block_meaning
returns-then-stops c =
    let full : most_stops ≤ c.args.stops = omega (arith, c.if-stops.true) in
    rw (← c.is_stop.ensures, not-false c.is_stop.result c.if-not-is_stop.false-raw, le-ltb _ _ full)

pub returns : goal.returns
unfolding block_meaning times_right
returns c =
    let more : c.args.stops < most_stops = omega (arith, c.if-stops.false) in
    rw (← c.is_stop.ensures, not-false c.is_stop.result c.if-not-is_stop.false-raw, lt-ltb _ _ more, c.stop_means.ensures)

pub is_stop-requires : goal.is_stop-requires
unfolding block_meaning
is_stop-requires c = search rules

pub returns-then-not-is_stop : goal.returns-then-not-is_stop
unfolding block_meaning
returns-then-not-is_stop c = rw (← c.is_stop.ensures, not-true c.is_stop.result c.if-not-is_stop.true-raw)

pub stop_means-requires : goal.stop_means-requires
unfolding block_meaning
stop_means-requires c = search rules
