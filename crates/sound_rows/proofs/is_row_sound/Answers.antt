-- `is_row_sound` meets its contract: the tests stand in the definition's order. Assumes nothing.
use mathlib.Core.Path.{refl, sym, ◌∙◌}
use mathlib.Core.Bool.{true, false, and-true}
use borrow.Author.Tests.{eq-eqb, ne_eqb, not-true, not-false}
use Rattle.iff.specs.declared.File.TheVariants.{Rows}
use Rattle.sound_rows.proofs.RowLaws.{fits_row, shape_is, plain_by}
use Rattle.sound_rows.proofs.is_row_sound.Goals as goal

pub returns-then-tag-ne-LETTERLESS : goal.returns-then-tag-ne-LETTERLESS
returns-then-tag-ne-LETTERLESS c ctx d k =
    let a = c.args in
    plain_by ctx a.file a.count a.row.now false _ _ _ false (ne_eqb _ _ c.if-tag-ne-LETTERLESS.true) refl refl refl refl

pub is_shaped-requires : goal.is_shaped-requires
is_shaped-requires c =
    fits_row c.args.form c.args.file _ _ _ c.record_of-record.ensures c.requires

pub returns-then-not-is_shaped : goal.returns-then-not-is_shaped
returns-then-not-is_shaped c ctx d k =
    let a = c.args in
    plain_by ctx a.file a.count a.row.now true false _ _ false (eq-eqb _ _ c.if-tag-ne-LETTERLESS.false)
    (sym (shape_is a.form ctx.form (Rows a.file) a.row.now _ _ d c.record_of-record.ensures c.is_shaped.ensures)
    ∙ not-true _ c.if-not-is_shaped.true-raw)
    refl refl refl

pub returns-then-not-row_means : goal.returns-then-not-row_means
returns-then-not-row_means c ctx d k =
    let a = c.args in
    plain_by ctx a.file a.count a.row.now true true false _ false (eq-eqb _ _ c.if-tag-ne-LETTERLESS.false)
    (sym (shape_is a.form ctx.form (Rows a.file) a.row.now _ _ d c.record_of-record.ensures c.is_shaped.ensures)
    ∙ not-false _ c.if-not-is_shaped.false-raw)
    (sym c.row_means.ensures ∙ not-true _ c.if-not-row_means.true-raw) refl refl

pub returns : goal.returns
returns c ctx d k =
    let a = c.args in
    plain_by ctx a.file a.count a.row.now true true true _ _ (eq-eqb _ _ c.if-tag-ne-LETTERLESS.false)
    (sym (shape_is a.form ctx.form (Rows a.file) a.row.now _ _ d c.record_of-record.ensures c.is_shaped.ensures)
    ∙ not-false _ c.if-not-is_shaped.false-raw)
    (sym c.row_means.ensures ∙ not-false _ c.if-not-row_means.false-raw) (sym (c.met_by_row.ensures ctx k)) (sym (and-true _))
