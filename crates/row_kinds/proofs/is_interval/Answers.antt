-- `is_interval` meets its contract: its tests are the kind's, in order. Assumes nothing.
use mathlib.Core.Path.{sym, ◌∙◌}
use native.Mathlib.Omega.{arith}
use borrow.Author.Tests.{not-true, not-false, lt-ltb, le-ltb}
use Rattle.row_kinds.proofs.is_interval.Goals as goal

pub returns-then-not-is_code : goal.returns-then-not-is_code
returns-then-not-is_code c = let a = c.args in rw (sym c.is_code.ensures ∙ not-true _ c.if-not-is_code.true-raw)

pub returns-then-arrival-ge10000 : goal.returns-then-arrival-ge10000
returns-then-arrival-ge10000 c =
    let a = c.args in
    rw (sym c.is_code.ensures ∙ not-false _ c.if-not-is_code.false-raw, le-ltb a.arrival 10000 (omega (arith, c.if-arrival-ge10000.true)))

pub returns-then-departure-ge10000 : goal.returns-then-departure-ge10000
returns-then-departure-ge10000 c =
    let a = c.args in
    rw (
      sym c.is_code.ensures ∙ not-false _ c.if-not-is_code.false-raw,
      lt-ltb a.arrival 10000 (omega (arith, c.if-arrival-ge10000.false)),
      le-ltb a.departure 10000 (omega (arith, c.if-departure-ge10000.true)),
    )

pub returns-then-not-rest : goal.returns-then-not-rest
returns-then-not-rest c =
    let a = c.args in
    rw (
      sym c.is_code.ensures ∙ not-false _ c.if-not-is_code.false-raw,
      lt-ltb a.arrival 10000 (omega (arith, c.if-arrival-ge10000.false)),
      lt-ltb a.departure 10000 (omega (arith, c.if-departure-ge10000.false)),
      not-true a.rest c.if-not-rest.true-raw,
    )

pub returns-then-not-means : goal.returns-then-not-means
returns-then-not-means c =
    let a = c.args in
    rw (
      sym c.is_code.ensures ∙ not-false _ c.if-not-is_code.false-raw,
      lt-ltb a.arrival 10000 (omega (arith, c.if-arrival-ge10000.false)),
      lt-ltb a.departure 10000 (omega (arith, c.if-departure-ge10000.false)),
      not-false a.rest c.if-not-rest.false-raw,
      not-true a.means c.if-not-means.true-raw,
    )

pub returns : goal.returns
returns c =
    let a = c.args in
    rw (
      sym c.is_code.ensures ∙ not-false _ c.if-not-is_code.false-raw,
      lt-ltb a.arrival 10000 (omega (arith, c.if-arrival-ge10000.false)),
      lt-ltb a.departure 10000 (omega (arith, c.if-departure-ge10000.false)),
      not-false a.rest c.if-not-rest.false-raw,
      not-false a.means c.if-not-means.false-raw,
    ) c.names_at.ensures
