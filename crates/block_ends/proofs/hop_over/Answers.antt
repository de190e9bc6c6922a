-- `block_ends::hop_over` meets its contract: each line that is hopped over ends in CR LF, and begins no block. Assumes nothing.
use native.Mathlib.Omega.{arith}
use Rattle.block_ends.proofs.HopLaws.{hopping_start, hopping_next, hopped_head, hopped_end}
use Rattle.block_ends.proofs.hop_over.Goals as goal

pub returns-then-at-eq0 : goal.returns-then-at-eq0
returns-then-at-eq0 c = λ h. absurd (omega (arith, c.lost.ensures))

pub loop-at-init : goal.loop-at-init
loop-at-init c =
    hopping_start c.args.text.now c.args.from _ (c.behind-at.ensures (omega (arith, c.if-at-eq0.false)))

pub returns-then-letter-eq35 : goal.returns-then-letter-eq35
returns-then-letter-eq35 c h =
    hopped_head c.args.text.now c.args.from c.loop-at.at c.loop-at.lines c.loop-at.invariant.hops c.loop-at-test.true c.if-letter-eq35.true

pub returns-then-next-eq0 : goal.returns-then-next-eq0
returns-then-next-eq0 c = λ h. absurd (omega (arith, c.lost-then-next-eq0.ensures))

pub overflow_add-lines : goal.overflow_add-lines
overflow_add-lines c =
    omega (arith, c.loop-at.invariant, c.loop-at.invariant.hops.ending, c.well_formed)

pub overflow_add-stops : goal.overflow_add-stops
overflow_add-stops c =
    omega (arith, c.loop-at.invariant, c.loop-at.invariant.hops.ending, c.stop_by-stops.ensures, c.well_formed)

pub loop-at-smaller : goal.loop-at-smaller
loop-at-smaller c =
    let e = c.behind-next.ensures (omega (arith, c.if-next-eq0.false)) in
    omega (arith, e, c.loop-at-test.true)

pub loop-at-preserved : goal.loop-at-preserved
loop-at-preserved c =
    hopping_next c.args.text.now c.args.from c.loop-at.at c.loop-at.lines c.loop-at.stops c.loop-at.invariant c.behind-next.result
    (c.behind-next.ensures (omega (arith, c.if-next-eq0.false))) c.if-letter-eq35.false c.stop_by-stops.result c.stop_by-stops.ensures

pub returns : goal.returns
returns c h =
    hopped_end c.args.text.now c.args.from c.loop-at.at c.loop-at.lines c.loop-at.invariant.hops c.loop-at-test.false
