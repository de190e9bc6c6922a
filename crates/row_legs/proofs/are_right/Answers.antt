-- `row_legs::are_right` meets its contract: its tests are the definition's, in order. Assumes nothing.
use Prim.Native.Nat.{◌-◌}
use mathlib.Core.Path.{◌≡◌, refl, sym, ◌∙◌}
use mathlib.Core.Bool.{true}
use borrow.Author.Tests.{not-true, not-false}
use Rattle.iff.specs.Bytes.{percent, dash, ampersand}
use Rattle.iff.specs.Lists.{all, any}
use Rattle.iff_rules.specs.Legs.{reach_of, in_range, covered, of_kind}
use Rattle.legs.specs.Rows.{covers}
use Rattle.linked_legs.specs.Links.{block_between}
use Rattle.row_legs.proofs.LinkLaws.{linked_legs}
use Rattle.row_legs.proofs.TestLaws.{out_of_range, asks, no_numbers, no_validities, modes}
use Rattle.row_legs.proofs.are_right.Goals as goal

-- records that follow each other cover each leg once
pub returns-then-are_all_linked : goal.returns-then-are_all_linked
returns-then-are_all_linked c =
    let rows = block_between c.args.t.now c.args.from c.args.to in
    linked_legs c.args.n rows c.requires.stops (sym c.are_all_linked.ensures ∙ c.if-are_all_linked.true)

pub returns-then-not-are_in_range : goal.returns-then-not-are_in_range
returns-then-not-are_in_range c = out_of_range _ _ _ _ c.requires (sym c.are_in_range.ensures ∙ not-true _ c.if-not-are_in_range.true-raw)

pub is_covered-requires : goal.is_covered-requires
unfolding covers any
is_covered-requires c =
    let ranged : ((let a = c.args in all (in_range reach_of a.n) (block_between a.t.now a.from a.to) ≡ true)) = sym c.are_in_range.ensures ∙ not-false _ c.if-not-are_in_range.false-raw in
    asks _ _ _ _ c.requires ranged percent refl

pub returns-then-not-is_covered : goal.returns-then-not-is_covered
returns-then-not-is_covered c =
    let ranged : ((let a = c.args in all (in_range reach_of a.n) (block_between a.t.now a.from a.to) ≡ true)) = sym c.are_in_range.ensures ∙ not-false _ c.if-not-are_in_range.false-raw in
    no_numbers _ _ _ _ c.requires ranged (sym c.is_covered.ensures ∙ not-true _ c.if-not-is_covered.true-raw)

pub is_covered-requires-2 : goal.is_covered-requires-2
unfolding covers any
is_covered-requires-2 c =
    let ranged : ((let a = c.args in all (in_range reach_of a.n) (block_between a.t.now a.from a.to) ≡ true)) = sym c.are_in_range.ensures ∙ not-false _ c.if-not-are_in_range.false-raw in
    asks _ _ _ _ c.requires ranged dash refl

pub returns-then-not-is_covered-2 : goal.returns-then-not-is_covered-2
returns-then-not-is_covered-2 c =
    let ranged : ((let a = c.args in all (in_range reach_of a.n) (block_between a.t.now a.from a.to) ≡ true)) = sym c.are_in_range.ensures ∙ not-false _ c.if-not-are_in_range.false-raw in
    let numbers : ((let a = c.args in
    covered (a.n - 1) (of_kind percent (block_between a.t.now a.from a.to)) ≡ true)) = sym c.is_covered.ensures ∙ not-false _ c.if-not-is_covered.false-raw in
    no_validities _ _ _ _ c.requires ranged numbers
    (sym c.is_covered-2.ensures ∙ not-true _ c.if-not-is_covered-2.true-raw)

pub is_covered-requires-3 : goal.is_covered-requires-3
unfolding covers any
is_covered-requires-3 c =
    let ranged : ((let a = c.args in all (in_range reach_of a.n) (block_between a.t.now a.from a.to) ≡ true)) = sym c.are_in_range.ensures ∙ not-false _ c.if-not-are_in_range.false-raw in
    asks _ _ _ _ c.requires ranged ampersand refl

pub returns : goal.returns
returns c =
    let ranged : ((let a = c.args in all (in_range reach_of a.n) (block_between a.t.now a.from a.to) ≡ true)) = sym c.are_in_range.ensures ∙ not-false _ c.if-not-are_in_range.false-raw in
    let numbers : ((let a = c.args in
    covered (a.n - 1) (of_kind percent (block_between a.t.now a.from a.to)) ≡ true)) = sym c.is_covered.ensures ∙ not-false _ c.if-not-is_covered.false-raw in
    let validities : ((let a = c.args in
    covered (a.n - 1) (of_kind dash (block_between a.t.now a.from a.to)) ≡ true)) = sym c.is_covered-2.ensures ∙ not-false _ c.if-not-is_covered-2.false-raw in
    c.is_covered-3.ensures ∙ modes _ _ _ _ c.requires ranged numbers validities
