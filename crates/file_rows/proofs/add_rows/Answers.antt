-- `file_rows::add_rows` meets its contract. The loop's invariant: what is left to read is the whole. Assumes nothing.
use Prim.Native.Nat.{◌+◌, ◌^◌, ◌<◌}
use mathlib.Core.Path.{refl, ◌∙◌}
use native.Mathlib.Omega.{arith}
use Rattle.file_rows.proofs.ReadLaws.{starts, line_room, stops, goes_on, ends}
use Rattle.file_rows.proofs.add_rows.Goals as goal

pub loop-at-init : goal.loop-at-init
loop-at-init c = (
  rw c.no_keys-run.ensures
      (starts c.args.file c.args.form c.args.text.now c.args.from c.args.counts c.args.countries.now
      c.args.zones.now
      c.args.t.now c.requires.0 c.args.marks.now c.requires.1),
  refl,
)

pub add_line-requires : goal.add_line-requires
add_line-requires c =
    line_room c.args.file c.args.form c.args.text.now c.args.from c.args.counts c.args.countries.now c.args.zones.now
    c.args.t.now c.requires.0 _ _ _ _ _ c.loop-at.invariant.0 _ c.line_at-s.ensures
    (omega (arith, c.loop-at.invariant.0.cut.few, c.loop-at.invariant.0.inside, c.well_formed))

pub overflow_add-count : goal.overflow_add-count
overflow_add-count c =
    let numbered : c.loop-at.count + 2 < 2 ^ 64 = omega (arith, c.loop-at.invariant.0.cut.few, c.loop-at.invariant.0.inside, c.loop-at-test.true, c.well_formed) in
    let n = numbered in omega (arith, n)

pub line_number-requires : goal.line_number-requires
line_number-requires c =
    let numbered : c.loop-at.count + 2 < 2 ^ 64 = omega (arith, c.loop-at.invariant.0.cut.few, c.loop-at.invariant.0.inside, c.loop-at-test.true, c.well_formed) in
    let n = numbered in omega (arith, n)

pub returns-in-Err : goal.returns-in-Err
returns-in-Err c =
    stops c.args.file c.args.form c.args.text.now c.args.from c.args.counts c.args.countries.now c.args.zones.now
    c.args.t.now c.requires.0 _ _ _ _ _ c.loop-at.invariant.0 _ c.line_at-s.ensures _ _ c.add_line.ensures _ _
    c.in-Err.is (c.line_number.ensures ∙ omega arith)

-- the part that is marked is the line
pub slice_bounds-mark_line-start : goal.slice_bounds-mark_line-start
slice_bounds-mark_line-start c = omega (arith, c.line_at-s.ensures)

pub slice_bounds-mark_line-end : goal.slice_bounds-mark_line-end
slice_bounds-mark_line-end c = omega (arith, c.line_at-s.ensures)

pub slice_bounds-mark_line-count : goal.slice_bounds-mark_line-count
slice_bounds-mark_line-count c = omega (arith, c.line_at-s.ensures)

pub overflow_add-count-in-Ok : goal.overflow_add-count-in-Ok
overflow_add-count-in-Ok c =
    omega (arith, c.loop-at.invariant.0.cut.few, c.loop-at.invariant.0.inside, c.loop-at-test.true, c.well_formed)

pub loop-at-preserved : goal.loop-at-preserved
loop-at-preserved c = (
  goes_on c.args.file c.args.form c.args.text.now c.args.from c.args.counts c.args.countries.now c.args.zones.now
      c.args.t.now c.requires.0 _ _ _ _ _ c.loop-at.invariant.0 _ c.line_at-s.ensures _ _ c.add_line.ensures _
      c.in-Ok.is _ _ c.next_run-run.ensures c.mark_line.ensures,
  c.mark_line.auto.marks ∙ c.loop-at.invariant.1,
)

pub returns : goal.returns
returns c =
    ends c.args.file c.args.form c.args.text.now c.args.from c.args.counts c.args.countries.now c.args.zones.now
    c.args.t.now c.requires.0 _ _ _ _ _ c.loop-at.invariant.0 c.loop-at-test.false

pub slice_bounds-add_line-count : goal.slice_bounds-add_line-count
slice_bounds-add_line-count c = omega (arith, c.loop-at.invariant.0.cut.low)

pub slice_bounds-add_line-start : goal.slice_bounds-add_line-start
slice_bounds-add_line-start c = omega (arith, c.loop-at.invariant.0.cut.low)

pub slice_bounds-add_line-end : goal.slice_bounds-add_line-end
slice_bounds-add_line-end c = omega (arith, c.loop-at.invariant.0.inside)

pub slice_bounds-add_line-count-in-loop-at : goal.slice_bounds-add_line-count-in-loop-at
slice_bounds-add_line-count-in-loop-at c = omega (arith, c.line_at-s.ensures)

pub slice_bounds-add_line-start-in-loop-at : goal.slice_bounds-add_line-start-in-loop-at
slice_bounds-add_line-start-in-loop-at c = omega (arith, c.line_at-s.ensures)

pub slice_bounds-add_line-end-in-loop-at : goal.slice_bounds-add_line-end-in-loop-at
slice_bounds-add_line-end-in-loop-at c = omega (arith, c.line_at-s.ensures)

pub shape_of-t-in-Err : goal.shape_of-t-in-Err
shape_of-t-in-Err c = (returns-in-Err c).kept

pub shape_of-marks-in-Err : goal.shape_of-marks-in-Err
shape_of-marks-in-Err c = c.loop-at.invariant.1

pub loop-at-smaller : goal.loop-at-smaller
loop-at-smaller c = omega (arith, c.line_at-s.ensures)

pub shape_of-t : goal.shape_of-t
shape_of-t c = (returns c).kept

pub shape_of-marks : goal.shape_of-marks
shape_of-marks c = c.loop-at.invariant.1
