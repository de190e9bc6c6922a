-- `sound_behind::are_groups_right` meets its contract: what went before, then the rows, where there are any. Assumes nothing.
use mathlib.Core.Path.{◌≡◌, ◌∙◌}
use native.Mathlib.Omega.{arith}
use borrow.Author.Tests.{not-true, not-false}
use Rattle.iff.specs.declared.File.TheVariants.{Groups}
use Rattle.walks.proofs.TableLaws.{inside}
use Rattle.sound_behind.proofs.BehindLaws.{handed_on, nothing_behind, rows_behind_lem}
use Rattle.sound_behind.proofs.are_groups_right.Goals as goal

pub returns-then-not-so_far : goal.returns-then-not-so_far
returns-then-not-so_far c x form agree =
    let a = c.args in
    handed_on a.so_far _ (not-true a.so_far c.if-not-so_far.true-raw)

pub returns-then-used-eq0 : goal.returns-then-used-eq0
returns-then-used-eq0 c x form agree =
    let a = c.args in
    nothing_behind x (Groups a.file) a.t.now a.used c.requires a.so_far (not-false a.so_far c.if-not-so_far.false-raw) c.if-used-eq0.true

pub are_groups_sound-requires : goal.are_groups_sound-requires
are_groups_sound-requires c =
    let a = c.args in
    (omega (arith, c.if-used-eq0.false), inside (Groups a.file) a.t.now a.used c.requires)

pub returns : goal.returns
returns c x form agree =
    let a = c.args in
    c.are_groups_sound.ensures x form agree
    ∙ rows_behind_lem x (Groups a.file) a.t.now a.used c.requires a.so_far (not-false a.so_far c.if-not-so_far.false-raw) c.if-used-eq0.false
