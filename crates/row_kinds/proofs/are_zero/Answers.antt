-- `are_zero` meets its contract: its tests are the definition's, in order. Assumes nothing.
use mathlib.Core.Bool.{and-true}
use borrow.Author.Tests.{eq-eqb, ne_eqb}
use Rattle.row_kinds.proofs.are_zero.Goals as goal

pub returns-then-a-ne0 : goal.returns-then-a-ne0
returns-then-a-ne0 c = let a = c.args in rw (ne_eqb 0 a.a c.if-a-ne0.true)

pub returns-then-b-ne0 : goal.returns-then-b-ne0
returns-then-b-ne0 c = let a = c.args in rw (eq-eqb 0 a.a c.if-a-ne0.false, ne_eqb 0 a.b c.if-b-ne0.true)

pub returns-then-d-ne0 : goal.returns-then-d-ne0
returns-then-d-ne0 c =
    let a = c.args in
    rw (eq-eqb 0 a.a c.if-a-ne0.false, eq-eqb 0 a.b c.if-b-ne0.false, ne_eqb 0 a.d c.if-d-ne0.true)

pub returns : goal.returns
returns c =
    let a = c.args in
    rw (eq-eqb 0 a.a c.if-a-ne0.false, eq-eqb 0 a.b c.if-b-ne0.false, eq-eqb 0 a.d c.if-d-ne0.false, and-true)
