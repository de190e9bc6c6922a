-- `blocks::read_platform` and `blocks::read_stops` meet their contracts. What is left of the text falls; at one place of it a reader of stops
-- comes before a reader of platforms. The loop's invariant: the lines left say what all lines were to say. Assumes nothing.
use mathlib.Core.Path.{sym, ◌∙◌}
use native.Mathlib.Omega.{arith}
use Rattle.blocks.proofs.ReadLaws.{starts, held, goes_on, ends}
use Rattle.blocks.proofs.+read_platform_read_stops.Goals as goal

pub read_platform-overflow_add-number : goal.read_platform-overflow_add-number
read_platform-overflow_add-number t c = omega arith

pub read_platform-line_at-requires : goal.read_platform-line_at-requires
read_platform-line_at-requires t c = (c.requires.0, c.requires.1.few)

pub read_platform-read_stops-requires : goal.read_platform-read_stops-requires
read_platform-read_stops-requires t c = let r = goes_on _ _ _ _ _ _ _ _ _ (starts _ _ _ _ _ _ c.requires.1) _ c.line_at.ensures _ _ c.in-Ok.is in
    (omega (arith, c.requires, c.line_at.ensures.past _ _ c.in-Ok.is), r.here)

pub read_platform-returns-in-Err : goal.read_platform-returns-in-Err
read_platform-returns-in-Err t c = held _ _ _ _ _ _ _ _ _ (starts _ _ _ _ _ _ c.requires.1) _ c.line_at.ensures _ c.in-Err.is

pub read_platform-returns-in-Ok : goal.read_platform-returns-in-Ok
read_platform-returns-in-Ok t c = let r = goes_on _ _ _ _ _ _ _ _ _ (starts _ _ _ _ _ _ c.requires.1) _ c.line_at.ensures _ _ c.in-Ok.is in
    c.read_stops.ensures ∙ sym r.left

pub read_stops-loop-at-init : goal.read_stops-loop-at-init
read_stops-loop-at-init t c = starts _ _ _ _ _ _ c.requires

pub read_stops-overflow_add-number : goal.read_stops-overflow_add-number
read_stops-overflow_add-number t c = omega arith

pub read_stops-read_platform-requires : goal.read_stops-read_platform-requires
read_stops-read_platform-requires t c = (omega (arith, c.requires), (c.loop-at-test.true, c.loop-at.invariant.here))

pub read_stops-returns-then-block-at-eq63 : goal.read_stops-returns-then-block-at-eq63
read_stops-returns-then-block-at-eq63 t c = c.read_platform.ensures ∙ sym c.loop-at.invariant.left

pub read_stops-line_at-requires : goal.read_stops-line_at-requires
read_stops-line_at-requires t c = (c.loop-at-test.true, c.loop-at.invariant.here.few)

pub read_stops-returns-in-Err : goal.read_stops-returns-in-Err
read_stops-returns-in-Err t c = held _ _ _ _ _ _ _ _ _ c.loop-at.invariant _ c.line_at.ensures _ c.in-Err.is

pub read_stops-loop-at-smaller : goal.read_stops-loop-at-smaller
read_stops-loop-at-smaller t c = omega (arith, c.line_at.ensures.past _ _ c.in-Ok.is)

pub read_stops-loop-at-preserved : goal.read_stops-loop-at-preserved
read_stops-loop-at-preserved t c = goes_on _ _ _ _ _ _ _ _ _ c.loop-at.invariant _ c.line_at.ensures _ _ c.in-Ok.is

pub read_stops-returns : goal.read_stops-returns
read_stops-returns t c = ends _ _ _ _ _ _ _ _ _ c.loop-at.invariant c.loop-at-test.false
