-- `amend_tests::judge` meets its contract: each way out is one of the laws of the tests in turn. Assumes nothing.
use Rattle.std.proofs.Common.{rules, ◌≡◌, Err}
use mathlib.Core.Path.{refl, sym, ◌∙◌}
use native.Mathlib.Omega.{arith}
use borrow.Author.Tests.{not-true, not-false}
use Rattle.amend_tests.proofs.JudgeLaws.{not_one, no_service, editable, size_refused, block_judged}
use Rattle.amend_tests.proofs.judge.Goals as goal

pub returns-then-not-is_one_block : goal.returns-then-not-is_one_block
returns-then-not-is_one_block c =
    let a = c.args in
    not_one a.form a.t.now a.companies.now a.modes.now a.stations.now a.footnotes.now a.service a.block.now
    (sym c.is_one_block.ensures ∙ not-true _ c.if-not-is_one_block.true-raw)

pub find_group-part-requires : goal.find_group-part-requires
find_group-part-requires c =
    (record { counted = c.used_rows-used.ensures; once = c.requires.once }, record { tag = refl; word = refl })

pub returns-then-from-to : goal.returns-then-from-to
returns-then-from-to c =
    let a = c.args in
    no_service a.form a.t.now a.companies.now a.modes.now a.stations.now a.footnotes.now a.service a.block.now
    (sym c.is_one_block.ensures ∙ not-false _ c.if-not-is_one_block.false-raw) c.requires _ c.used_rows-used.ensures _ c.find_group-part.ensures c.if-from-to.true

pub test_sizes-requires : goal.test_sizes-requires
test_sizes-requires c =
    let a = c.args in
    editable a.form a.t.now a.companies.now a.modes.now a.stations.now a.footnotes.now a.service a.block.now
    (sym c.is_one_block.ensures ∙ not-false _ c.if-not-is_one_block.false-raw) c.requires _ c.used_rows-used.ensures _ c.find_group-part.ensures c.if-from-to.false

pub judge_block-requires : goal.judge_block-requires
judge_block-requires c =
    omega (arith, c.used_rows-used.ensures, c.find_group-part.ensures.in_use, c.find_group-part.ensures.inside.order)

pub returns-in_err-test_sizes : goal.returns-in_err-test_sizes
returns-in_err-test_sizes c =
    let a = c.args in
    let handed : c.from_residual.result ≡ Err c.in_err-test_sizes.field-0.0 = search rules in
    rw handed (size_refused a.form a.t.now a.companies.now a.modes.now a.stations.now a.footnotes.now a.service a.block.now
    (sym c.is_one_block.ensures ∙ not-false _ c.if-not-is_one_block.false-raw) c.requires _ c.used_rows-used.ensures _ c.find_group-part.ensures c.if-from-to.false
    _ c.test_sizes.ensures _ _ c.in_err-test_sizes.was)

pub returns : goal.returns
returns c =
    let a = c.args in
    block_judged a.form a.t.now a.companies.now a.modes.now a.stations.now a.footnotes.now a.service a.block.now
    (sym c.is_one_block.ensures ∙ not-false _ c.if-not-is_one_block.false-raw) c.requires _ c.used_rows-used.ensures _ c.find_group-part.ensures c.if-from-to.false
    _ c.test_sizes.ensures c.in_ok-test_sizes.was _ c.judge_block.ensures
