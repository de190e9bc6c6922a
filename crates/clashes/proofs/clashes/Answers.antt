-- `clashes` meets its contract: each file has its own test, or none. Assumes nothing.
use mathlib.Core.Path.{ap, ◌∙◌}
use native.Mathlib.Omega.{arith}
use Rattle.iff.specs.Tables.{group_width}
use Rattle.clashes.proofs.clashes.Goals as goal

pub overlaps-requires : goal.overlaps-requires
overlaps-requires c =
    let w = ap group_width c.in-Timezone.is in
    (omega (arith, c.requires.0 ∙ w), omega (arith, c.requires.1 ∙ w))

pub same_pair-requires : goal.same_pair-requires
same_pair-requires c =
    let w = ap group_width c.in-Changes.is in
    (omega (arith, c.requires.0 ∙ w), omega (arith, c.requires.1 ∙ w))

pub same_exception-requires : goal.same_exception-requires
same_exception-requires c =
    let w = ap group_width c.in-Xchanges.is in
    (omega (arith, c.requires.0 ∙ w), omega (arith, c.requires.1 ∙ w))

pub returns-in-Timezone : goal.returns-in-Timezone
returns-in-Timezone c = rw c.in-Timezone.is c.overlaps.ensures

pub returns-in-Changes : goal.returns-in-Changes
returns-in-Changes c = rw c.in-Changes.is c.same_pair.ensures

pub returns-in-Xchanges : goal.returns-in-Xchanges
returns-in-Xchanges c = rw c.in-Xchanges.is c.same_exception.ensures
