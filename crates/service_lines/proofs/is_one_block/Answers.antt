-- `service_lines::is_one_block` meets its contract: its first line, then those that follow. Assumes nothing.
use mathlib.Core.Path.{sym, ◌∙◌}
use borrow.Author.Tests.{not-true, not-false}
use Rattle.service_lines.proofs.LinesLaws.{block_none, block_unended, block_other, block_rest}
use Rattle.service_lines.proofs.is_one_block.Goals as goal

pub returns-then-block-eq0 : goal.returns-then-block-eq0
returns-then-block-eq0 c = block_none _ _ c.if-block-eq0.true

pub returns-then-not-line : goal.returns-then-not-line
returns-then-not-line c = block_unended _ _ _ c.line_at-line.ensures (not-true _ c.if-not-line.true)

pub returns-then-not-is_head : goal.returns-then-not-is_head
returns-then-not-is_head c =
    block_other _ _ _ c.line_at-line.ensures (not-false _ c.if-not-line.false)
    (sym (c.is_head.ensures _) ∙ not-true _ c.if-not-is_head.true-raw)

pub returns : goal.returns
returns c =
    c.all_follow.ensures
    ∙ block_rest _ _ _ c.line_at-line.ensures (not-false _ c.if-not-line.false)
    (sym (c.is_head.ensures _) ∙ not-false _ c.if-not-is_head.false-raw)
