-- `is_attribute` meets its contract: its tests are the kind's, in order. Assumes nothing.
use mathlib.Core.Path.{sym, ◌∙◌}
use native.Mathlib.Omega.{arith}
use borrow.Author.Tests.{not-true, not-false, lt-ltb, le-ltb}
use Rattle.row_kinds.proofs.is_attribute.Goals as goal

pub returns-then-not-is_code : goal.returns-then-not-is_code
returns-then-not-is_code c = let a = c.args in rw (sym c.is_code.ensures ∙ not-true _ c.if-not-is_code.true-raw)

pub returns-then-footnote-ge100000 : goal.returns-then-footnote-ge100000
returns-then-footnote-ge100000 c =
    let a = c.args in
    rw (sym c.is_code.ensures ∙ not-false _ c.if-not-is_code.false-raw, le-ltb a.footnote 100000 (omega (arith, c.if-footnote-ge100000.true)))

pub returns-then-not-rest : goal.returns-then-not-rest
returns-then-not-rest c =
    let a = c.args in
    rw (
      sym c.is_code.ensures ∙ not-false _ c.if-not-is_code.false-raw,
      lt-ltb a.footnote 100000 (omega (arith, c.if-footnote-ge100000.false)),
      not-true a.rest c.if-not-rest.true-raw,
    )

pub returns : goal.returns
returns c =
    let a = c.args in
    rw (
      sym c.is_code.ensures ∙ not-false _ c.if-not-is_code.false-raw,
      lt-ltb a.footnote 100000 (omega (arith, c.if-footnote-ge100000.false)),
      not-false a.rest c.if-not-rest.false-raw,
    ) c.names_at.ensures
