-- `block_lines::row_test` meets its contract: each way out is one of the laws of a row. Assumes nothing.
use mathlib.Core.Path.{sym, ◌∙◌}
use borrow.Author.Tests.{not-true, not-false}
use Rattle.block_lines.proofs.StepLaws.{keys_agree, bad_value, not_new, not_met, row_passes}
use Rattle.block_lines.proofs.row_test.Goals as goal

pub returns-then-not-block_means : goal.returns-then-not-block_means
returns-then-not-block_means c form = bad_value _ _ _ _ (sym c.block_means.ensures ∙ not-true _ c.if-not-block_means.true-raw)

pub returns-then-not-is_new : goal.returns-then-not-is_new
returns-then-not-is_new c form = not_new _ _ _ _ (sym c.block_means.ensures ∙ not-false _ c.if-not-block_means.false-raw) (sym c.is_new.ensures ∙ not-true _ c.if-not-is_new.true-raw)

pub returns-then-not-met_in_block : goal.returns-then-not-met_in_block
returns-then-not-met_in_block c form = not_met _ _ _ _ (sym c.block_means.ensures ∙ not-false _ c.if-not-block_means.false-raw)
    (sym c.is_new.ensures ∙ not-false _ c.if-not-is_new.false-raw)
    (sym (c.met_in_block.ensures _ (keys_agree form _ _ _ _ _)) ∙ not-true _ c.if-not-met_in_block.true-raw)

pub returns : goal.returns
returns c form = row_passes _ _ _ _ (sym c.block_means.ensures ∙ not-false _ c.if-not-block_means.false-raw)
    (sym c.is_new.ensures ∙ not-false _ c.if-not-is_new.false-raw)
    (sym (c.met_in_block.ensures _ (keys_agree form _ _ _ _ _)) ∙ not-false _ c.if-not-met_in_block.false-raw)
