-- `file_rows::plain_row_test` meets its contract: the tests in their order. Assumes nothing.
use mathlib.Core.Path.{refl, sym, ◌∙◌}
use mathlib.Core.Bool.{true, false}
use native.Mathlib.Omega.{arith}
use borrow.Author.Tests.{not-true, not-false}
use Rattle.iff.specs.Refusals.{first_test}
use Rattle.iff.specs.declared.File.TheVariants.{Rows}
use Rattle.tables.proofs.Widths.{widths}
use Rattle.file_rows.proofs.PlainLaws.{row_tests, row_test_is}
use Rattle.file_rows.proofs.plain_row_test.Goals as goal

pub returns-then-not-row_means : goal.returns-then-not-row_means
unfolding row_tests first_test
returns-then-not-row_means c = λ k s earlier e.
    row_test_is c.args.file c.args.count c.args.before.now c.args.t.now c.args.line.now c.args.row.now c.requires.keyed
    false _ _ _ k earlier e
    (sym (not-true _ c.if-not-row_means.true-raw) ∙ c.row_means.ensures) refl refl refl

pub returns-then-not-is_key_new : goal.returns-then-not-is_key_new
unfolding row_tests first_test
returns-then-not-is_key_new c = λ k s earlier e.
    row_test_is c.args.file c.args.count c.args.before.now c.args.t.now c.args.line.now c.args.row.now c.requires.keyed
    true false _ _ k earlier e
    (sym (not-false _ c.if-not-row_means.false-raw) ∙ c.row_means.ensures)
    (sym (not-true _ c.if-not-is_key_new.true-raw) ∙ (c.is_key_new.ensures ∙ rw c.key_word-k.ensures))
    refl refl

pub returns-then-not-are_texts_new : goal.returns-then-not-are_texts_new
unfolding row_tests first_test
returns-then-not-are_texts_new c = λ k s earlier e.
    row_test_is c.args.file c.args.count c.args.before.now c.args.t.now c.args.line.now c.args.row.now c.requires.keyed
    true true false _ k earlier e
    (sym (not-false _ c.if-not-row_means.false-raw) ∙ c.row_means.ensures)
    (sym (not-false _ c.if-not-is_key_new.false-raw) ∙ (c.is_key_new.ensures ∙ rw c.key_word-k.ensures))
    (sym (not-true _ c.if-not-are_texts_new.true-raw) ∙ c.are_texts_new.ensures)
    refl

pub returns-then-not-met_by_row : goal.returns-then-not-met_by_row
unfolding row_tests first_test
returns-then-not-met_by_row c = λ k s earlier e.
    row_test_is c.args.file c.args.count c.args.before.now c.args.t.now c.args.line.now c.args.row.now c.requires.keyed
    true true true false k earlier e
    (sym (not-false _ c.if-not-row_means.false-raw) ∙ c.row_means.ensures)
    (sym (not-false _ c.if-not-is_key_new.false-raw) ∙ (c.is_key_new.ensures ∙ rw c.key_word-k.ensures))
    (sym (not-false _ c.if-not-are_texts_new.false-raw) ∙ c.are_texts_new.ensures)
    (sym (not-true _ c.if-not-met_by_row.true-raw) ∙ c.met_by_row.ensures k s)

pub returns : goal.returns
unfolding row_tests first_test
returns c = λ k s earlier e.
    row_test_is c.args.file c.args.count c.args.before.now c.args.t.now c.args.line.now c.args.row.now c.requires.keyed
    true true true true k earlier e
    (sym (not-false _ c.if-not-row_means.false-raw) ∙ c.row_means.ensures)
    (sym (not-false _ c.if-not-is_key_new.false-raw) ∙ (c.is_key_new.ensures ∙ rw c.key_word-k.ensures))
    (sym (not-false _ c.if-not-are_texts_new.false-raw) ∙ c.are_texts_new.ensures)
    (sym (not-false _ c.if-not-met_by_row.false-raw) ∙ c.met_by_row.ensures k s)

pub row_means-requires : goal.row_means-requires
row_means-requires c = c.requires.width

pub offset_bounds-row-k : goal.offset_bounds-row-k
offset_bounds-row-k c = omega (arith, (widths (Rows c.args.file)).key, (widths (Rows c.args.file)).few, c.key_word-k.ensures)

pub bounds-row-k : goal.bounds-row-k
bounds-row-k c = omega (arith, (widths (Rows c.args.file)).key, c.key_word-k.ensures, c.requires.width)

pub is_key_new-requires : goal.is_key_new-requires
is_key_new-requires c = let p = c.requires in
    (p.runs, p.marked.keys)

pub are_texts_new-requires : goal.are_texts_new-requires
are_texts_new-requires c = c.requires.marked.texts

pub met_by_row-requires : goal.met_by_row-requires
met_by_row-requires c = c.requires.width
