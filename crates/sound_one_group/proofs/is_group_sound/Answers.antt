-- `is_group_sound` meets its contract: what is left of the group passes exactly when the whole does. Assumes nothing.
use mathlib.Core.Path.{refl, ◌∙◌}
use borrow.Author.Tests.{not-true, not-false}
use Rattle.tables.proofs.Rows.{row_inside}
use Rattle.sound_one_group.proofs.GroupLaws.{starts, goes_on, breaks, ends}
use Rattle.sound_one_group.proofs.is_group_sound.Goals as goal

pub loop-i-init : goal.loop-i-init
loop-i-init c = (starts _ _ _ _ _ _ _ _ _ _ _ _ c.requires.1 _, refl)

pub is_sound_at-requires : goal.is_sound_at-requires
is_sound_at-requires c =
    let p = c.loop-i.invariant.0 in
    (c.requires.0, p.low, row_inside _ _ _ _ c.loop-i-test.true c.requires.2, p.stands, p.kept)

pub shape_of-marks-then-not-is_sound_at : goal.shape_of-marks-then-not-is_sound_at
shape_of-marks-then-not-is_sound_at c =
    c.is_sound_at.auto.marks ∙ c.loop-i.invariant.1

pub returns-then-not-is_sound_at : goal.returns-then-not-is_sound_at
returns-then-not-is_sound_at c =
    breaks _ _ _ _ _ _ _ _ _ _ _ _ c.requires.1 _ _ _ c.loop-i.invariant.0 c.loop-i-test.true _ _ c.is_sound_at.ensures
    (not-true _ c.if-not-is_sound_at.true-raw)

pub loop-i-preserved : goal.loop-i-preserved
loop-i-preserved c = (
  goes_on _ _ _ _ _ _ _ _ _ _ _ _ c.requires.1 _ _ _ c.loop-i.invariant.0 c.loop-i-test.true _ _ c.is_sound_at.ensures
      (not-false _ c.if-not-is_sound_at.false-raw) _ c.group_moves-stand.ensures,
  c.is_sound_at.auto.marks ∙ c.loop-i.invariant.1,
)

pub returns : goal.returns
returns c =
    ends _ _ _ _ _ _ _ _ _ _ _ _ c.requires.1 _ _ _ c.loop-i.invariant.0 c.loop-i-test.false _ c.may_end.ensures

pub shape_of-marks : goal.shape_of-marks
shape_of-marks c = c.loop-i.invariant.1
