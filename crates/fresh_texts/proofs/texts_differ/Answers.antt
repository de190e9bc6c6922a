-- `fresh_texts::texts_differ` meets its contract. The loop's invariant: what is left to look at is the whole. Assumes nothing.
use mathlib.Core.Path.{sym, ◌∙◌}
use Rattle.fresh_texts.specs.Texts.{as_line}
use Rattle.fresh_texts.proofs.TextLaws.{unshared_end, shared, not_shared}
use Rattle.fresh_texts.proofs.texts_differ.Goals as goal

pub returns-then-same_texts : goal.returns-then-same_texts
returns-then-same_texts c =
    let a = c.args in
    shared a.file (as_line a.line.now) _ _ _ _ c.in-Some.ensures.steps c.loop-earlier.invariant (sym c.same_texts.ensures ∙ c.if-same_texts.true)

pub loop-earlier-preserved : goal.loop-earlier-preserved
loop-earlier-preserved c =
    let a = c.args in
    not_shared a.file (as_line a.line.now) _ _ _ _ c.in-Some.ensures.steps c.loop-earlier.invariant (sym c.same_texts.ensures ∙ c.if-same_texts.false)

pub returns : goal.returns
returns c =
    let a = c.args in
    unshared_end a.file (as_line a.line.now) _ _ c.in-None.ensures.steps.0 c.loop-earlier.invariant
