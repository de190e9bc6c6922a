-- `edit_sizes::test_sizes` meets its contract: test 1, and then test 2. Assumes nothing.
use native.Mathlib.Omega.{arith}
use borrow.Author.Tests.{not-true, not-false}
use Rattle.edit_sizes.proofs.EditLaws.{too_long, no_room, sizes_fine}
use Rattle.edit_sizes.proofs.test_sizes.Goals as goal

pub returns-then-not-fits_limit : goal.returns-then-not-fits_limit
returns-then-not-fits_limit c =
    let a = c.args in
    too_long a.form a.t.now a.used a.from a.to a.block.now _ c.fits_limit.ensures (not-true _ c.if-not-fits_limit.true-raw)

pub has_room-requires : goal.has_room-requires
has_room-requires c =
    let p = c.requires in
    (omega (arith, p.some), p.within, p.lies)

pub returns-then-not-has_room : goal.returns-then-not-has_room
returns-then-not-has_room c =
    let a = c.args in
    no_room a.form a.t.now a.used a.from a.to a.block.now _ c.fits_limit.ensures (not-false _ c.if-not-fits_limit.false-raw)
    _ c.count_lines.ensures _ c.has_room.ensures (not-true _ c.if-not-has_room.true-raw)

pub returns : goal.returns
returns c =
    let a = c.args in
    sizes_fine a.form a.t.now a.used a.from a.to a.block.now _ c.fits_limit.ensures (not-false _ c.if-not-fits_limit.false-raw)
    _ c.count_lines.ensures _ c.has_room.ensures (not-false _ c.if-not-has_room.false-raw)
