-- `block_lines::block_line` meets its contract: each way out is one of the laws of a line. Assumes nothing.
use Rattle.std.proofs.Common.{rules, ◌≡◌, Err}
use mathlib.Core.Path.{sym, ◌∙◌}
use borrow.Author.Tests.{not-true, not-false}
use Rattle.block_lines.proofs.StepLaws.{unknown, out_of_order, no_record, let_through}
use Rattle.block_lines.proofs.block_line.Goals as goal

pub returns-then-not-is_known_in_block : goal.returns-then-not-is_known_in_block
returns-then-not-is_known_in_block c = unknown _ _ _ _ _ c.first_byte-letter.ensures (sym c.is_known_in_block.ensures ∙ not-true _ c.if-not-is_known_in_block.true-raw)

pub returns-in-None : goal.returns-in-None
returns-in-None c =
    out_of_order _ _ _ _ _ c.first_byte-letter.ensures (sym c.is_known_in_block.ensures ∙ not-false _ c.if-not-is_known_in_block.false-raw)
    (sym c.goes.ensures ∙ c.in-None.is)

pub returns-in_err-record_test-in-Some : goal.returns-in_err-record_test-in-Some
returns-in_err-record_test-in-Some c =
    let handed : c.from_residual.result ≡ Err c.in_err-record_test-in-Some.field-0.0 = search rules in
    handed ∙ (no_record _ _ _ _ _ c.first_byte-letter.ensures (sym c.is_known_in_block.ensures ∙ not-false _ c.if-not-is_known_in_block.false-raw)
    _ (sym c.goes.ensures ∙ c.in-Some.is) _ (sym c.record_test.ensures ∙ c.in_err-record_test-in-Some.was))

pub returns-in_ok-record_test-in-Some : goal.returns-in_ok-record_test-in-Some
returns-in_ok-record_test-in-Some c =
    let_through _ _ _ _ _ c.first_byte-letter.ensures (sym c.is_known_in_block.ensures ∙ not-false _ c.if-not-is_known_in_block.false-raw)
    _ (sym c.goes.ensures ∙ c.in-Some.is)
    (sym c.record_test.ensures ∙ c.in_ok-record_test-in-Some.was) _ c.after_record.ensures
