-- `sound_frames::are_rows_framed_by` meets its contract: the first line's row by what is told of the keys, then the length. Assumes nothing.
use mathlib.Core.Path.{◌≡◌, ap, sym, ◌∙◌}
use native.Mathlib.Omega.{arith}
use borrow.Author.Tests.{not-true, not-false}
use Rattle.iff.specs.Tables.{row_at, row_width, rising, keys_of}
use Rattle.iff_desk.specs.Sound.{sound_first}
use Rattle.keys.specs.Blocks.{rows_between}
use Rattle.walks.proofs.TableLaws.{inside, first_inside, words_first, first_wide}
use Rattle.sound_frames.proofs.FrameLaws.{not_sound, by_size}
use Rattle.sound_frames.proofs.are_rows_framed_by.Goals as goal

pub slice_bounds-is_first_sound-end : goal.slice_bounds-is_first_sound-end
slice_bounds-is_first_sound-end c =
    let a = c.args in
    omega (arith, c.row_width-w.ensures.is, first_inside a.file a.t.now a.used c.requires.1 c.requires.0)

pub is_first_sound-requires : goal.is_first_sound-requires
is_first_sound-requires c =
    let a = c.args in (
      first_wide a.file a.t.now c.row_width-w.result c.row_width-w.ensures.is
          (first_inside a.file a.t.now a.used c.requires.1 c.requires.0),
      c.requires.2,
    )

pub returns-then-not-is_first_sound : goal.returns-then-not-is_first_sound
returns-then-not-is_first_sound c distinct rise =
    let first_is : c.args.rise
    ≡ rising (keys_of c.args.file
    (rows_between (row_width c.args.file) c.args.t.now 1 c.args.used))
    → c.is_first_sound.result
    ≡ sound_first c.args.file c.args.delivery.now
    (row_at (row_width c.args.file) c.args.t.now 0)
    (rows_between (row_width c.args.file) c.args.t.now 1 c.args.used) = λ rise. let a = c.args in
    let later = rows_between (row_width a.file) a.t.now 1 a.used in
    c.is_first_sound.ensures later rise
    ∙ ap (λ r. sound_first a.file a.delivery.now r later) (words_first a.file a.t.now c.row_width-w.result c.row_width-w.ensures.is) in
    let a = c.args in
    not_sound a.file a.t.now a.used c.requires.1 a.form a.delivery.now c.requires.0
    (sym (first_is rise) ∙ not-true _ c.if-not-is_first_sound.true-raw)

pub fits_limit-requires : goal.fits_limit-requires
fits_limit-requires c =
    let a = c.args in
    inside a.file a.t.now a.used c.requires.1

pub returns : goal.returns
returns c distinct rise =
    let first_is : c.args.rise
    ≡ rising (keys_of c.args.file
    (rows_between (row_width c.args.file) c.args.t.now 1 c.args.used))
    → c.is_first_sound.result
    ≡ sound_first c.args.file c.args.delivery.now
    (row_at (row_width c.args.file) c.args.t.now 0)
    (rows_between (row_width c.args.file) c.args.t.now 1 c.args.used) = λ rise. let a = c.args in
    let later = rows_between (row_width a.file) a.t.now 1 a.used in
    c.is_first_sound.ensures later rise
    ∙ ap (λ r. sound_first a.file a.delivery.now r later) (words_first a.file a.t.now c.row_width-w.result c.row_width-w.ensures.is) in
    let a = c.args in
    c.fits_limit.ensures
    ∙ by_size a.file a.t.now a.used c.requires.1 a.form a.delivery.now c.requires.0 distinct
    (sym (first_is rise) ∙ not-false _ c.if-not-is_first_sound.false-raw)
