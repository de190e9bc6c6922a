-- `linked_legs::are_all_linked` meets its contract: what is left is the whole, of each test. Assumes nothing.
use mathlib.Core.Path.{sym, ◌∙◌}
use borrow.Author.Tests.{not-true, not-false, eq-eqb, ne_eqb}
use Rattle.iff.specs.Bytes.{percent, dash, ampersand}
use Rattle.iff_rules.specs.Legs.{reach_of, in_range}
use Rattle.linked_legs.proofs.RowLaws.{all_none, all_not, all_on}
use Rattle.linked_legs.proofs.LinkingLaws.{linked_none, linked_not, linked_on}
use Rattle.linked_legs.proofs.LinkingLaws.{range_fails, numbers_fail, validities_fail, modes_fail, all_hold}
use Rattle.linked_legs.proofs.are_all_linked.Goals as goal

pub returns-then-not-ranged : goal.returns-then-not-ranged
returns-then-not-ranged c =
    let a = c.args in
    range_fails a.t.now a.from a.to a.n
    (c.loop-i.invariant.ranged
    ∙ all_not (in_range reach_of a.n) a.t.now c.loop-i.i a.to c.loop-i-test.true _ c.in_range_at-ranged.ensures (not-true _ c.if-not-ranged.true-raw))

pub returns-then-number-eq0 : goal.returns-then-number-eq0
returns-then-number-eq0 c =
    let a = c.args in
    numbers_fail a.t.now a.from a.to a.n
    (c.loop-i.invariant.numbers
    ∙ linked_not percent a.n a.t.now c.loop-i.i a.to c.loop-i.number c.loop-i-test.true _ c.stop_after_at-number.ensures c.if-number-eq0.true)

pub returns-then-validity-eq0 : goal.returns-then-validity-eq0
returns-then-validity-eq0 c =
    let a = c.args in
    validities_fail a.t.now a.from a.to a.n
    (c.loop-i.invariant.validities
    ∙ linked_not dash a.n a.t.now c.loop-i.i a.to c.loop-i.validity c.loop-i-test.true _ c.stop_after_at-validity.ensures c.if-validity-eq0.true)

pub returns-then-mode-eq0 : goal.returns-then-mode-eq0
returns-then-mode-eq0 c =
    let a = c.args in
    modes_fail a.t.now a.from a.to a.n
    (c.loop-i.invariant.modes
    ∙ linked_not ampersand a.n a.t.now c.loop-i.i a.to c.loop-i.mode c.loop-i-test.true _ c.stop_after_at-mode.ensures c.if-mode-eq0.true)

pub loop-i-preserved : goal.loop-i-preserved
loop-i-preserved c =
    let a = c.args in
    let p = c.loop-i.invariant in
    record {
      ranged = p.ranged ∙ all_on (in_range reach_of a.n) a.t.now c.loop-i.i a.to c.loop-i-test.true _ c.in_range_at-ranged.ensures
          (not-false _ c.if-not-ranged.false-raw);
      numbers = p.numbers ∙ linked_on percent a.n a.t.now c.loop-i.i a.to c.loop-i.number c.loop-i-test.true _
          c.stop_after_at-number.ensures c.if-number-eq0.false;
      validities = p.validities ∙ linked_on dash a.n a.t.now c.loop-i.i a.to c.loop-i.validity c.loop-i-test.true _
          c.stop_after_at-validity.ensures c.if-validity-eq0.false;
      modes = p.modes ∙ linked_on ampersand a.n a.t.now c.loop-i.i a.to c.loop-i.mode c.loop-i-test.true _
          c.stop_after_at-mode.ensures c.if-mode-eq0.false;
    }

pub returns-then-number-n : goal.returns-then-number-n
returns-then-number-n c =
    let a = c.args in
    let p = c.loop-i.invariant in
    numbers_fail a.t.now a.from a.to a.n
    (p.numbers ∙ linked_none percent a.n a.t.now c.loop-i.i a.to c.loop-i.number c.loop-i-test.false
    ∙ ne_eqb c.loop-i.number a.n c.if-number-n.true)

pub returns-then-validity-n : goal.returns-then-validity-n
returns-then-validity-n c =
    let a = c.args in
    let p = c.loop-i.invariant in
    validities_fail a.t.now a.from a.to a.n
    (p.validities ∙ linked_none dash a.n a.t.now c.loop-i.i a.to c.loop-i.validity c.loop-i-test.false
    ∙ ne_eqb c.loop-i.validity a.n c.if-validity-n.true)

pub returns : goal.returns
returns c =
    let a = c.args in
    let p = c.loop-i.invariant in
    sym (p.modes ∙ linked_none ampersand a.n a.t.now c.loop-i.i a.to c.loop-i.mode c.loop-i-test.false)
    ∙ all_hold a.t.now a.from a.to a.n
    (p.ranged ∙ all_none (in_range reach_of a.n) a.t.now c.loop-i.i a.to c.loop-i-test.false)
    (p.numbers ∙ linked_none percent a.n a.t.now c.loop-i.i a.to c.loop-i.number c.loop-i-test.false
    ∙ eq-eqb c.loop-i.number a.n c.if-number-n.false)
    (p.validities ∙ linked_none dash a.n a.t.now c.loop-i.i a.to c.loop-i.validity c.loop-i-test.false
    ∙ eq-eqb c.loop-i.validity a.n c.if-validity-n.false)
