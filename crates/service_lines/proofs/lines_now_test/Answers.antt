-- `service_lines::lines_now_test` meets its contract. Assumes nothing.
use mathlib.Core.Path.{sym, ◌∙◌}
use Rattle.service_lines.proofs.LinesLaws.{test_block, test_text}
use Rattle.service_lines.proofs.lines_now_test.Goals as goal

pub returns-then-is_one_block : goal.returns-then-is_one_block
returns-then-is_one_block c = test_block _ _ _ (sym c.is_one_block.ensures ∙ c.if-is_one_block.true)

pub returns : goal.returns
returns c =
    let a = c.args in
    rw c.lines_part-part.ensures.0
    (test_text a.text.now a.block.now a.service (sym c.is_one_block.ensures ∙ c.if-is_one_block.false))
