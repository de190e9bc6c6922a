-- `group_tests::row_test` meets its contract. The three tests of a row, in their order. Assumes nothing.
use borrow.Author.Tests.{not-true, not-false}
use Rattle.group_tests.proofs.LineLaws.{means_not, unique_not, met_not, row_passes}
use Rattle.group_tests.proofs.row_test.Goals as goal

pub returns-then-not-group_means : goal.returns-then-not-group_means
returns-then-not-group_means c = λ k a. means_not k _ _ _ _ _ _ _ c.group_means.ensures (not-true _ c.if-not-group_means.true-raw)

pub returns-then-not-is_unique : goal.returns-then-not-is_unique
returns-then-not-is_unique c =
    λ k a.
    unique_not k _ _ _ _ _ _ _ c.group_means.ensures (not-false _ c.if-not-group_means.false-raw) _ c.is_unique.ensures
    (not-true _ c.if-not-is_unique.true-raw)

pub returns-then-not-met_in_group : goal.returns-then-not-met_in_group
returns-then-not-met_in_group c =
    λ k a.
    met_not k _ _ _ _ _ _ _ c.group_means.ensures (not-false _ c.if-not-group_means.false-raw) _ c.is_unique.ensures
    (not-false _ c.if-not-is_unique.false-raw) _ (c.met_in_group.ensures k a) (not-true _ c.if-not-met_in_group.true-raw)

pub returns : goal.returns
returns c =
    λ k a.
    row_passes k _ _ _ _ _ _ _ c.group_means.ensures (not-false _ c.if-not-group_means.false-raw) _ c.is_unique.ensures
    (not-false _ c.if-not-is_unique.false-raw) _ (c.met_in_group.ensures k a) (not-false _ c.if-not-met_in_group.false-raw)
