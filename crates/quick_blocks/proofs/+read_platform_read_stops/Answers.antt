-- `quick_blocks::read_platform` and `quick_blocks::read_stops` meet their contracts. What is left of the text falls; at one place of it a reader of
-- stops comes before a reader of platforms. The loop's invariant: the lines left do what all lines were to do. Assumes nothing.
use mathlib.Core.Path.{refl, ◌∙◌}
use native.Mathlib.Omega.{arith}
use Rattle.block_lines.specs.Lines.{keys_from}
use Rattle.quick_blocks.proofs.DriveLaws.{driving_start, driving_next, goes_further, drivable, first_room, drove_on, drove_stuck, drove_end}
use Rattle.quick_blocks.proofs.+read_platform_read_stops.Goals as goal

pub read_platform-overflow_add-number : goal.read_platform-overflow_add-number
read_platform-overflow_add-number t c = omega (arith, c.requires.0, c.requires.1.standing, c.well_formed)

pub read_platform-overflow_add-row : goal.read_platform-overflow_add-row
read_platform-overflow_add-row t c = omega (arith, c.requires.1.room, c.well_formed)

pub read_platform-put_platform-requires : goal.read_platform-put_platform-requires
read_platform-put_platform-requires t c = (c.requires.0, refl, c.requires.1.standing.few, first_room _ _ _ _ _ _ c.requires.1 c.requires.0)

pub read_platform-read_stops-requires : goal.read_platform-read_stops-requires
read_platform-read_stops-requires t c = let a = c.args in
    let d = c.requires.1 in
    let h = c.requires.0 in
    let x = driving_start a.form (keys_from a.form a.counts a.companies.now a.modes.now a.stations.now a.footnotes.now) _
    a.n a.k _ _ _ _ _ d in
    let p = c.put_platform.ensures.stepped _ _ c.in_ok-next.was in (
      omega (arith, c.requires.0, h, goes_further _ _ _ _ _ _ _ _ _ _ d _ _ _ _ x _ _ _ h p, p.line, p.nexts),
      drivable _ _ _ _ _ _ _ _ _ _ d _ _ _ _ (driving_next _ _ _ _ _ _ _ _ _ _ d _ _ _ _ x _ _ _ h p),
    )

pub read_platform-returns : goal.read_platform-returns
read_platform-returns t c = let a = c.args in
    let d = c.requires.1 in
    let h = c.requires.0 in
    let x = driving_start a.form (keys_from a.form a.counts a.companies.now a.modes.now a.stations.now a.footnotes.now) _
    a.n a.k _ _ _ _ _ d in
    let p = c.put_platform.ensures.stepped _ _ c.in_ok-next.was in
    drove_on _ _ _ _ _ _ _ _ _ _ d _ _ _ _ (driving_next _ _ _ _ _ _ _ _ _ _ d _ _ _ _ x _ _ _ h p) _ _ c.read_stops.ensures

pub read_stops-loop-at-init : goal.read_stops-loop-at-init
read_stops-loop-at-init t c = driving_start _ _ _ _ _ _ _ _ _ _ c.requires

pub read_stops-overflow_add-number : goal.read_stops-overflow_add-number
read_stops-overflow_add-number t c = omega (arith, c.loop-at-test.true, c.loop-at.invariant.reading.here, c.well_formed)

pub read_stops-read_platform-requires : goal.read_stops-read_platform-requires
read_stops-read_platform-requires t c = (
  omega (arith, c.loop-at.invariant.reading, c.loop-at-test.true),
  (c.loop-at-test.true, drivable _ _ _ _ _ _ _ _ _ _ c.requires _ _ _ _ c.loop-at.invariant),
)

pub read_stops-shape_of-t-then-letter-eq63 : goal.read_stops-shape_of-t-then-letter-eq63
read_stops-shape_of-t-then-letter-eq63 t c = c.read_platform.auto.t ∙ c.loop-at.invariant.kept

pub read_stops-returns-then-letter-eq63 : goal.read_stops-returns-then-letter-eq63
read_stops-returns-then-letter-eq63 t c = drove_on _ _ _ _ _ _ _ _ _ _ c.requires _ _ _ _ c.loop-at.invariant _ _
    c.read_platform.ensures

pub read_stops-overflow_add-row : goal.read_stops-overflow_add-row
read_stops-overflow_add-row t c = let d = drivable _ _ _ _ _ _ _ _ _ _ c.requires _ _ _ _ c.loop-at.invariant in
    omega (arith, d.room, c.loop-at.invariant.kept, c.well_formed)

pub read_stops-put_line-requires : goal.read_stops-put_line-requires
read_stops-put_line-requires t c = let d = drivable _ _ _ _ _ _ _ _ _ _ c.requires _ _ _ _ c.loop-at.invariant in
    (c.loop-at-test.true, refl, d.standing.few, first_room _ _ _ _ _ _ d c.loop-at-test.true)

pub read_stops-shape_of-t-in-None : goal.read_stops-shape_of-t-in-None
read_stops-shape_of-t-in-None t c = c.put_line.auto.t ∙ c.loop-at.invariant.kept

pub read_stops-returns-in-None : goal.read_stops-returns-in-None
read_stops-returns-in-None t c = drove_stuck _ _ _ _ _ _ _ _ _ _ c.requires _ _ _ _ c.loop-at.invariant _
    (c.put_line.ensures.kept c.in-None.is)

pub read_stops-loop-at-smaller : goal.read_stops-loop-at-smaller
read_stops-loop-at-smaller t c = let p = c.put_line.ensures.stepped _ _ c.in-Some.is in
    omega (arith, p.line, p.nexts, c.loop-at-test.true)

pub read_stops-loop-at-preserved : goal.read_stops-loop-at-preserved
read_stops-loop-at-preserved t c = driving_next _ _ _ _ _ _ _ _ _ _ c.requires _ _ _ _ c.loop-at.invariant _ _ _
    c.loop-at-test.true
    (c.put_line.ensures.stepped _ _ c.in-Some.is)

pub read_stops-shape_of-t : goal.read_stops-shape_of-t
read_stops-shape_of-t t c = c.loop-at.invariant.kept

pub read_stops-returns : goal.read_stops-returns
read_stops-returns t c = drove_end _ _ _ _ _ _ _ _ _ _ c.requires _ _ _ _ c.loop-at.invariant c.loop-at-test.false
