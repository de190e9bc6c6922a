-- `first_lines::first_line` meets its contract: the tests in their order. Assumes nothing.
use mathlib.Core.Path.{◌≡◌, refl, sym, ◌∙◌}
use mathlib.Core.Bool.{true, false}
use borrow.Author.Tests.{eq-eqb, ne_eqb, not-true, not-false}
use Rattle.iff.specs.Lists.{same}
use Rattle.iff.specs.Refusals.{first_test}
use Rattle.iff.specs.Columns.{fits, picture, record_fields, form424}
use Rattle.iff.specs.declared.Record.TheVariants.{FirstRecord}
use Rattle.records.specs.Layouts.{line_of}
use Rattle.first_lines.proofs.HeadLaws.{head_tests, head_by, laid_fits, legible_first}
use Rattle.first_lines.proofs.first_line.Goals as goal

pub returns-then-first_byte-ne64 : goal.returns-then-first_byte-ne64
unfolding head_tests first_test
returns-then-first_byte-ne64 c = head_by (form424 0) _ _ false _ _ _ _ (ne_eqb _ _ (λ e. c.if-first_byte-ne64.true (c.first_byte.ensures ∙ e))) refl refl refl refl

pub returns-then-not-is_laid : goal.returns-then-not-is_laid
unfolding head_tests first_test
returns-then-not-is_laid c =
    head_by (form424 0) _ _ true false _ _ _
    (eq-eqb _ _ (sym c.first_byte.ensures ∙ c.if-first_byte-ne64.false))
    (sym c.is_laid.ensures ∙ not-true _ c.if-not-is_laid.true-raw)
    refl refl refl

pub returns-then-not-same_bytes : goal.returns-then-not-same_bytes
unfolding head_tests first_test
returns-then-not-same_bytes c =
    let a = c.args in
    head_by (form424 0) (same a.line.now a.header.now) (line_of a.line.now a.ended) true true false _ _
    (eq-eqb _ _ (sym c.first_byte.ensures ∙ c.if-first_byte-ne64.false))
    (sym c.is_laid.ensures ∙ not-false _ c.if-not-is_laid.false-raw)
    (sym c.same_bytes.ensures ∙ not-true _ c.if-not-same_bytes.true-raw)
    refl refl

pub returns-then-not-is_readable : goal.returns-then-not-is_readable
unfolding head_tests first_test
returns-then-not-is_readable c =
    head_by (form424 0) _ _ true true true false _
    (eq-eqb _ _ (sym c.first_byte.ensures ∙ c.if-first_byte-ne64.false))
    (sym c.is_laid.ensures ∙ not-false _ c.if-not-is_laid.false-raw)
    (sym c.same_bytes.ensures ∙ not-false _ c.if-not-same_bytes.false-raw)
    (sym c.is_readable.ensures ∙ not-true _ c.if-not-is_readable.true-raw)
    refl

pub returns-then-not-days_right : goal.returns-then-not-days_right
unfolding head_tests first_test
returns-then-not-days_right c =
    head_by (form424 0) _ _ true true true true false
    (eq-eqb _ _ (sym c.first_byte.ensures ∙ c.if-first_byte-ne64.false))
    (sym c.is_laid.ensures ∙ not-false _ c.if-not-is_laid.false-raw)
    (sym c.same_bytes.ensures ∙ not-false _ c.if-not-same_bytes.false-raw)
    (sym c.is_readable.ensures ∙ not-false _ c.if-not-is_readable.false-raw)
    (sym c.days_right.ensures ∙ not-true _ c.if-not-days_right.true-raw)

pub returns : goal.returns
unfolding head_tests first_test
returns c =
    head_by (form424 0) _ _ true true true true true
    (eq-eqb _ _ (sym c.first_byte.ensures ∙ c.if-first_byte-ne64.false))
    (sym c.is_laid.ensures ∙ not-false _ c.if-not-is_laid.false-raw)
    (sym c.same_bytes.ensures ∙ not-false _ c.if-not-same_bytes.false-raw)
    (sym c.is_readable.ensures ∙ not-false _ c.if-not-is_readable.false-raw)
    (sym c.days_right.ensures ∙ not-false _ c.if-not-days_right.false-raw)

pub is_readable-requires : goal.is_readable-requires
is_readable-requires c =
    let fitting : fits c.args.line.now (picture (record_fields (form424 0) FirstRecord)) ≡ true = let a = c.args in
    laid_fits (form424 0) a.line.now a.ended _ c.is_laid.ensures (not-false _ c.if-not-is_laid.false-raw) in
    fitting

pub days_right-requires : goal.days_right-requires
days_right-requires c =
    let fitting : fits c.args.line.now (picture (record_fields (form424 0) FirstRecord)) ≡ true = let a = c.args in
    laid_fits (form424 0) a.line.now a.ended _ c.is_laid.ensures (not-false _ c.if-not-is_laid.false-raw) in
    legible_first (form424 0) _ fitting (sym c.is_readable.ensures ∙ not-false _ c.if-not-is_readable.false-raw)
