-- `group_tests::place_test` meets its contract. The two tests of a first byte, in their order. Assumes nothing.
use borrow.Author.Tests.{not-true, not-false}
use Rattle.group_tests.proofs.place_test.Goals as goal

pub returns-then-not-is_known_in_group : goal.returns-then-not-is_known_in_group
returns-then-not-is_known_in_group c =
    rw (← c.is_known_in_group.ensures, not-true c.is_known_in_group.result c.if-not-is_known_in_group.true-raw)

pub returns-then-not-may_follow : goal.returns-then-not-may_follow
returns-then-not-may_follow c =
    rw (
      ← c.is_known_in_group.ensures,
      not-false c.is_known_in_group.result c.if-not-is_known_in_group.false-raw,
      ← c.group_tag-tag.ensures,
      ← c.may_follow.ensures,
      not-true c.may_follow.result c.if-not-may_follow.true-raw,
    )

pub returns : goal.returns
returns c =
    rw (
      ← c.is_known_in_group.ensures,
      not-false c.is_known_in_group.result c.if-not-is_known_in_group.false-raw,
      ← c.group_tag-tag.ensures,
      ← c.may_follow.ensures,
      not-false c.may_follow.result c.if-not-may_follow.false-raw,
    )
