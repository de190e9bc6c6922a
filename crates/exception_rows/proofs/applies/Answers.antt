-- `applies` meets its contract: the keys of the one side, those of the other, the vector. Assumes nothing.
use mathlib.Core.Path.{◌∙◌}
use Rattle.iff.specs.Tables.{group_width, row_at, rows_in}
use Rattle.iff.specs.declared.GroupFile.TheVariants.{Xfootnote, Xchanges}
use Rattle.iff.specs.declared.File.TheVariants.{Groups}
use Rattle.exception_rows.proofs.RowLaws.{from_misses, to_misses, keys_fit}
use Rattle.exception_rows.proofs.applies.Goals as goal

pub returns-then-fits-2 : goal.returns-then-fits-2
returns-then-fits-2 c =
    let a = c.args in
    c.is_marked_at.ensures
    ∙ keys_fit (rows_in (Groups Xfootnote) a.xfootnotes.now) a.a a.b a.day
    (row_at (group_width Xchanges) a.t.now a.i) _ c.from_keys.ensures _ c.fits.ensures
    c.if-fits.true _ c.to_keys.ensures _ c.fits-then-fits.ensures c.if-fits-2.true

pub returns-then-fits : goal.returns-then-fits
returns-then-fits c =
    let a = c.args in
    to_misses (rows_in (Groups Xfootnote) a.xfootnotes.now) a.a a.b a.day
    (row_at (group_width Xchanges) a.t.now a.i) _ c.from_keys.ensures _ c.fits.ensures
    c.if-fits.true _ c.to_keys.ensures _ c.fits-then-fits.ensures c.if-fits-2.false

pub returns : goal.returns
returns c =
    let a = c.args in
    from_misses (rows_in (Groups Xfootnote) a.xfootnotes.now) a.a a.b a.day
    (row_at (group_width Xchanges) a.t.now a.i) _ c.from_keys.ensures _ c.fits.ensures c.if-fits.false
