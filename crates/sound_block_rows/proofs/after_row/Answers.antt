-- `after_row` meets its contract: each way out is one of the laws of a row. Assumes nothing.
use Rattle.std.proofs.Common.{rules, ◌≡◌, None}
use mathlib.Core.Path.{sym, ◌∙◌}
use native.Mathlib.Omega.{arith}
use borrow.Author.Tests.{not-true, not-false}
use Rattle.sound_block_rows.proofs.RowLaws.{other_number, not_here, not_right, goes_on}
use Rattle.sound_block_rows.proofs.after_row.Goals as goal

pub returns-then-number-line : goal.returns-then-number-line
returns-then-number-line c =
    let a = c.args in
    other_number _ _ _ _ _ a.block a.line a.row.now (λ e. omega (arith, c.if-number-line.true, e))

pub returns-in_err-to : goal.returns-in_err-to
returns-in_err-to c =
    let a = c.args in
    let handed : c.from_residual.result ≡ None = search rules in
    rw handed (not_here _ _ _ _ _ a.block a.line a.row.now (sym c.goes_by_tag.ensures ∙ c.in_err-to.was))

pub returns-then-not-is_right : goal.returns-then-not-is_right
returns-then-not-is_right c =
    let a = c.args in
    not_right _ _ _ _ _ a.block a.line a.row.now (omega (arith, c.if-number-line.false)) _ (sym c.goes_by_tag.ensures ∙ c.in_ok-to.was)
    _ c.is_right.ensures (not-true _ c.if-not-is_right.true-raw)

pub returns : goal.returns
returns c =
    let a = c.args in
    goes_on _ _ _ _ _ a.block a.line a.row.now (omega (arith, c.if-number-line.false)) _ (sym c.goes_by_tag.ensures ∙ c.in_ok-to.was)
    _ c.is_right.ensures (not-false _ c.if-not-is_right.false-raw) c.requires.1 _ c.stops_after.ensures
