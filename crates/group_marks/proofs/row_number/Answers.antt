-- `group_marks::row_number` meets its contract: each file has its own words, or none. Assumes nothing.
use mathlib.Core.Path.{ap, ◌∙◌}
use native.Mathlib.Omega.{arith}
use Rattle.iff.specs.Tables.{group_width}
use Rattle.group_marks.specs.Numbers.{row_number}
use Rattle.group_marks.proofs.row_number.Goals as goal

pub pair_number-requires : goal.pair_number-requires
pair_number-requires c =
    let w = ap group_width c.in-Changes.is in
    omega (arith, c.requires ∙ w)

pub exception_number-requires : goal.exception_number-requires
exception_number-requires c =
    let w = ap group_width c.in-Xchanges.is in
    omega (arith, c.requires ∙ w)

pub returns-in-Timezone : goal.returns-in-Timezone
unfolding row_number
returns-in-Timezone c = rw c.in-Timezone.is

pub returns-in-Footnote : goal.returns-in-Footnote
unfolding row_number
returns-in-Footnote c = rw c.in-Footnote.is

pub returns-in-Changes : goal.returns-in-Changes
returns-in-Changes c = rw c.in-Changes.is c.pair_number.ensures

pub returns-in-Xfootnote : goal.returns-in-Xfootnote
unfolding row_number
returns-in-Xfootnote c = rw c.in-Xfootnote.is

pub returns-in-Xchanges : goal.returns-in-Xchanges
returns-in-Xchanges c = rw c.in-Xchanges.is c.exception_number.ensures
