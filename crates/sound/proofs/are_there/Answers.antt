-- `sound::are_there` meets its contract: by the counts. Assumes nothing.
use mathlib.Core.Path.{◌≡◌, sym, ◌∙◌}
use native.Mathlib.Omega.{arith}
use borrow.Author.Tests.{lt-ltb, not-true, not-false}
use Rattle.sound.proofs.WholeLaws.{counts_there}
use Rattle.sound.proofs.are_there.Goals as goal

pub returns-then-not-three : goal.returns-then-not-three
returns-then-not-three c T k m =
    let e = sym c.three.ensures ∙ not-true _ c.if-not-three.true-raw in
    sym (sym (counts_there T _ k _ m) ∙ rw e)

pub returns-then-not-three-2 : goal.returns-then-not-three-2
returns-then-not-three-2 c T k m =
    let e = sym c.three.ensures ∙ not-false _ c.if-not-three.false-raw in
    let d = sym c.three-2.ensures ∙ not-true _ c.if-not-three-2.true-raw in
    sym (sym (counts_there T _ k _ m) ∙ rw (e, d))

pub returns-then-used-eq0 : goal.returns-then-used-eq0
returns-then-used-eq0 c T k m =
    let e = sym c.three.ensures ∙ not-false _ c.if-not-three.false-raw in
    let d = sym c.three-2.ensures ∙ not-false _ c.if-not-three-2.false-raw in
    sym (sym (counts_there T _ k _ m) ∙ rw (e, d, c.if-used-eq0.true))

pub returns-then-not-timetbls : goal.returns-then-not-timetbls
returns-then-not-timetbls c T k m =
    let a = c.args in
    let u = a.used in
    let e = sym c.three.ensures ∙ not-false _ c.if-not-three.false-raw in
    let d = sym c.three-2.ensures ∙ not-false _ c.if-not-three-2.false-raw in
    sym (sym (counts_there T _ k _ m)
    ∙ rw (e, d, lt-ltb 0 u.footnote (omega (arith, c.if-used-eq0.false)), not-true a.timetbls c.if-not-timetbls.true-raw))

pub returns-then-used-eq0-2 : goal.returns-then-used-eq0-2
returns-then-used-eq0-2 c T k m =
    let a = c.args in
    let u = a.used in
    let e = sym c.three.ensures ∙ not-false _ c.if-not-three.false-raw in
    let d = sym c.three-2.ensures ∙ not-false _ c.if-not-three-2.false-raw in
    sym (sym (counts_there T _ k _ m)
    ∙ rw (e, d, lt-ltb 0 u.footnote (omega (arith, c.if-used-eq0.false)), not-false a.timetbls c.if-not-timetbls.false-raw, c.if-used-eq0-2.true))

pub returns : goal.returns
returns c T k m =
    let a = c.args in
    let u = a.used in
    let e = sym c.three.ensures ∙ not-false _ c.if-not-three.false-raw in
    let d = sym c.three-2.ensures ∙ not-false _ c.if-not-three-2.false-raw in
    sym (sym (counts_there T _ k _ m)
    ∙ rw (
      e,
      d,
      lt-ltb 0 u.footnote (omega (arith, c.if-used-eq0.false)),
      not-false a.timetbls c.if-not-timetbls.false-raw,
      lt-ltb 0 u.xchanges (omega (arith, c.if-used-eq0-2.false)),
    ))
