-- `blocks::last_tests` meets its contract: what each test says is what the definition asks. Assumes nothing.
use mathlib.Core.Path.{sym, ◌∙◌}
use borrow.Author.Rules.{rules}
use borrow.Author.Tests.{not-true, not-false}
use Rattle.blocks.specs.Whole.{last_tests}
use Rattle.blocks.proofs.WholeLaws.{legs_read}
use Rattle.blocks.proofs.last_tests.Goals as goal

pub is_finished-requires : goal.is_finished-requires
unfolding last_tests
is_finished-requires c = search rules

pub returns-then-not-is_finished : goal.returns-then-not-is_finished
unfolding last_tests
returns-then-not-is_finished c = rw (sym c.is_finished.ensures ∙ not-true _ c.if-not-is_finished.true-raw)

pub are_right-requires : goal.are_right-requires
unfolding last_tests
are_right-requires c = legs_read _ _ _ _ c.requires

pub returns-then-not-are_right : goal.returns-then-not-are_right
unfolding last_tests
returns-then-not-are_right c = rw (sym c.is_finished.ensures ∙ not-false _ c.if-not-is_finished.false-raw, sym c.are_right.ensures ∙ not-true _ c.if-not-are_right.true-raw)

pub returns : goal.returns
unfolding last_tests
returns c = rw (sym c.is_finished.ensures ∙ not-false _ c.if-not-is_finished.false-raw, sym c.are_right.ensures ∙ not-false _ c.if-not-are_right.false-raw)
