-- `group_tests::test_row` meets its contract. The tests of a line, then those of its row. Assumes nothing.
use Rattle.std.proofs.Common.{rules, ◌≡◌, Err}
use Rattle.group_tests.proofs.RowLaws.{tested_no, tested}
use Rattle.group_tests.proofs.test_row.Goals as goal

pub returns-in_err-make_row : goal.returns-in_err-make_row
returns-in_err-make_row c =
    let handed : c.from_residual.result ≡ Err c.in_err-make_row.field-0.0 = search rules in
    rw handed (tested_no _ _ _ _ _ _ _ _ c.requires.0 _ _ _ c.make_row.ensures _ c.in_err-make_row.was)

pub returns : goal.returns
returns c =
    tested _ _ _ _ _ _ _ _ c.requires.0 _ _ _ c.make_row.ensures c.in_ok-make_row.was _ c.row_test.ensures
