-- `walk_groups` meets its contract: what is left is sound exactly when the whole is. Assumes nothing.
use Prim.Native.Nat.{◌*◌, ◌≤◌}
use mathlib.Core.Path.{refl, ◌∙◌}
use native.Mathlib.Nat.{mul-le-mul_right}
use native.Mathlib.Omega.{arith}
use lib.ListN.{length}
use borrow.Author.Rules.{rules}
use borrow.Author.Tests.{not-true, not-false}
use Rattle.group_walks.proofs.WalkLaws.{as_wide, stray, starts, goes_on, breaks, ends}
use Rattle.group_walks.proofs.walk_groups.Goals as goal

pub next_head-first-requires : goal.next_head-first-requires
next_head-first-requires c =
    let rows_inside : c.args.used * c.row_width-w.result ≤ length c.args.t.now = as_wide _ _ _ _ c.row_width-w.ensures.is c.requires.1 in
    (c.row_width-w.ensures.some, c.requires.0, rows_inside)

pub returns-then-first-ne1 : goal.returns-then-first-ne1
returns-then-first-ne1 c =
    stray _ _ _ _ _ _ _ _ _ _ _ c.row_width-w.ensures.is _ c.next_head-first.ensures
    (omega (arith, c.if-first-ne1.true, c.next_head-first.ensures.low))

pub loop-i-init : goal.loop-i-init
loop-i-init c = (
  starts _ _ _ _ _ _ _ _ _ _ _ c.row_width-w.ensures.is _ c.next_head-first.ensures
      (omega (arith, c.if-first-ne1.false, c.next_head-first.ensures.low)),
  refl,
)

pub next_head-next-requires : goal.next_head-next-requires
next_head-next-requires c =
    let rows_inside : c.args.used * c.row_width-w.result ≤ length c.args.t.now = as_wide _ _ _ _ c.row_width-w.ensures.is c.requires.1 in
    (c.row_width-w.ensures.some, search rules, rows_inside)

pub is_group_sound-requires : goal.is_group_sound-requires
is_group_sound-requires c =
    let rows_inside : c.args.used * c.row_width-w.result ≤ length c.args.t.now = as_wide _ _ _ _ c.row_width-w.ensures.is c.requires.1 in
    let n = c.next_head-next.ensures in
    (c.loop-i.invariant.0.width, omega (arith, n.low), omega (arith, rows_inside, mul-le-mul_right c.row_width-w.result n.high))

pub shape_of-marks-then-not-is_group_sound : goal.shape_of-marks-then-not-is_group_sound
shape_of-marks-then-not-is_group_sound c =
    c.is_group_sound.auto.marks ∙ c.loop-i.invariant.1

pub returns-then-not-is_group_sound : goal.returns-then-not-is_group_sound
returns-then-not-is_group_sound c =
    breaks _ _ _ _ _ _ _ _ _ _ _ _ c.loop-i.invariant.0 c.loop-i-test.true _ c.next_head-next.ensures _ c.is_group_sound.ensures
    (not-true _ c.if-not-is_group_sound.true-raw)

pub loop-i-preserved : goal.loop-i-preserved
loop-i-preserved c = (
  goes_on _ _ _ _ _ _ _ _ _ _ _ _ c.loop-i.invariant.0 c.loop-i-test.true _ c.next_head-next.ensures _ c.is_group_sound.ensures
      (not-false _ c.if-not-is_group_sound.false-raw),
  c.is_group_sound.auto.marks ∙ c.loop-i.invariant.1,
)

pub returns : goal.returns
returns c = ends _ _ _ _ _ _ _ _ _ _ _ _ c.loop-i.invariant.0 c.loop-i-test.false

pub loop-i-smaller : goal.loop-i-smaller
loop-i-smaller c = omega (arith, c.next_head-next.ensures.low)

pub shape_of-marks : goal.shape_of-marks
shape_of-marks c = c.loop-i.invariant.1
