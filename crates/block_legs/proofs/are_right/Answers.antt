-- `block_legs::are_right` meets its contract: its tests are the definition's. Assumes nothing.
use mathlib.Core.Path.{◌≡◌, refl, sym, ◌∙◌}
use mathlib.Core.Bool.{true}
use borrow.Author.Tests.{not-true, not-false}
use Rattle.iff.specs.Lists.{all, any}
use Rattle.iff.specs.Lines.{lines}
use Rattle.legs.specs.Rows.{covers}
use Rattle.block_legs.specs.Sight.{line_in_range}
use Rattle.block_legs.proofs.BlockLaws.{out_of_range, asks, three_kinds}
use Rattle.block_legs.proofs.are_right.Goals as goal

pub returns-then-not-are_in_range : goal.returns-then-not-are_in_range
returns-then-not-are_in_range c = out_of_range _ _ _ c.requires (sym c.are_in_range.ensures ∙ not-true _ c.if-not-are_in_range.true-raw)

pub is_covered-requires : goal.is_covered-requires
unfolding covers any
is_covered-requires c =
    let ranged : ((let a = c.args in all (line_in_range a.form a.n) (lines a.block.now) ≡ true)) = sym c.are_in_range.ensures ∙ not-false _ c.if-not-are_in_range.false-raw in
    asks _ _ _ c.requires ranged _ refl

pub is_covered-requires-2 : goal.is_covered-requires-2
unfolding covers any
is_covered-requires-2 c =
    let ranged : ((let a = c.args in all (line_in_range a.form a.n) (lines a.block.now) ≡ true)) = sym c.are_in_range.ensures ∙ not-false _ c.if-not-are_in_range.false-raw in
    asks _ _ _ c.requires ranged _ refl

pub is_covered-requires-3 : goal.is_covered-requires-3
unfolding covers any
is_covered-requires-3 c =
    let ranged : ((let a = c.args in all (line_in_range a.form a.n) (lines a.block.now) ≡ true)) = sym c.are_in_range.ensures ∙ not-false _ c.if-not-are_in_range.false-raw in
    asks _ _ _ c.requires ranged _ refl

pub returns : goal.returns
returns c =
    let ranged : ((let a = c.args in all (line_in_range a.form a.n) (lines a.block.now) ≡ true)) = sym c.are_in_range.ensures ∙ not-false _ c.if-not-are_in_range.false-raw in
    c.all_three.ensures
    ∙ rw (c.is_covered.ensures, c.is_covered-2.ensures, c.is_covered-3.ensures) (three_kinds _ _ _ c.requires ranged)
