-- `parts::is_head` meets its contract: test by test. Assumes nothing.
use mathlib.Core.Path.{sym, ◌∙◌}
use borrow.Author.Tests.{eq-eqb, ne_eqb, not-true, not-false}
use Rattle.iff_desk.specs.Parts.{is_head}
use Rattle.parts.proofs.is_head.Goals as goal

pub returns-then-line-ne9 : goal.returns-then-line-ne9
unfolding is_head
returns-then-line-ne9 c e = rw (ne_eqb _ _ c.if-line-ne9.true)

pub returns-then-line-ne35 : goal.returns-then-line-ne35
unfolding is_head
returns-then-line-ne35 c e = rw (eq-eqb _ _ c.if-line-ne9.false, ne_eqb _ _ c.if-line-ne35.true)

pub returns-then-not-all_digits : goal.returns-then-not-all_digits
unfolding is_head
returns-then-not-all_digits c e =
    let d = sym c.all_digits.ensures ∙ not-true _ c.if-not-all_digits.true-raw in
    rw (eq-eqb _ _ c.if-line-ne9.false, eq-eqb _ _ c.if-line-ne35.false, d)

pub returns : goal.returns
unfolding is_head
returns c e =
    let d = sym c.all_digits.ensures ∙ not-false _ c.if-not-all_digits.false-raw in
    rw (eq-eqb _ _ c.if-line-ne9.false, eq-eqb _ _ c.if-line-ne35.false, d, c.number.ensures)
