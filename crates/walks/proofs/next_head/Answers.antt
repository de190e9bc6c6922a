-- `next_head` meets its contract: the rows that were passed begin no group. Assumes nothing.
use mathlib.Core.Path.{◌≡◌, sym, ◌∙◌}
use native.Mathlib.Omega.{arith}
use borrow.Author.Tests.{eq-eqb, ne_eqb}
use Rattle.walks.proofs.GroupLaws.{starts, goes_on, stops, ends}
use Rattle.walks.proofs.next_head.Goals as goal

pub loop-i-init : goal.loop-i-init
loop-i-init c = starts _ _ _ _ c.requires.1

pub returns-then-word_at-eq-HASH : goal.returns-then-word_at-eq-HASH
returns-then-word_at-eq-HASH c =
    stops _ _ _ _ _ c.loop-i.invariant c.loop-i-test.true (eq-eqb _ _ (sym c.word_at.ensures ∙ c.if-word_at-eq-HASH.true))

pub loop-i-preserved : goal.loop-i-preserved
loop-i-preserved c =
    goes_on _ _ _ _ _ c.loop-i.invariant c.loop-i-test.true (ne_eqb _ _ (λ q. c.if-word_at-eq-HASH.false (c.word_at.ensures ∙ q)))

pub returns : goal.returns
returns c =
    let z : c.loop-i.i ≡ c.args.to = omega arith in
    rw z at (ends _ _ _ _ _ c.loop-i.invariant c.loop-i-test.false)
