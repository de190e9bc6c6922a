-- `count_services` meets its contract: the rows read, those of them that begin a block, and those that are left. Assumes nothing.
use mathlib.Core.Path.{◌∙◌}
use borrow.Author.Rules.{rules}
use Rattle.tables.proofs.Rest.{rest_none, rest_unused, rest_row}
use Rattle.fresh_keys.proofs.CountLaws.{all_read, one_read}
use Rattle.fresh_keys.proofs.count_services.Goals as goal

pub returns-then-tag-eq0 : goal.returns-then-tag-eq0
returns-then-tag-eq0 c = all_read _ _ _ _ c.loop-i.invariant (rest_unused _ _ _ _ (search rules) (search rules) (search rules))

pub loop-i-preserved : goal.loop-i-preserved
loop-i-preserved c =
    one_read _ _ _ _ c.loop-i.invariant c.loop-i-test.true _ _ (c.one_for-count.ensures ∙ rw c.word_at-tag.ensures)
    (rest_row _ _ _ _ (search rules) (search rules) (search rules))

pub returns : goal.returns
returns c = all_read _ _ _ _ c.loop-i.invariant (rest_none _ _ _ _ c.loop-i-test.false)
