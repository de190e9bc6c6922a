-- `row_count` meets its contract: i rows are counted, and those that are left. Assumes nothing.
use Prim.Native.Nat.{◌/◌}
use mathlib.Core.Path.{◌≡◌, sym, ◌∙◌}
use native.Mathlib.Omega.{arith}
use lib.ListN.{length}
use borrow.Author.Rules.{rules}
use Rattle.tables.proofs.Rows.{row_in_table}
use Rattle.tables.proofs.Rest.{rest_none, rest_unused, rest_row, count_none, count_end, count_on}
use Rattle.tables.proofs.row_count.Goals as goal

pub word_at-requires : goal.word_at-requires
word_at-requires c = (search rules, row_in_table _ _ _ c.loop-i-test.true)

pub returns-then-word_at-eq0 : goal.returns-then-word_at-eq0
returns-then-word_at-eq0 c = count_end _ _ _ _ c.loop-i.invariant (rest_unused _ _ _ _ (search rules) (search rules) (search rules))

pub loop-i-preserved : goal.loop-i-preserved
loop-i-preserved c =
    count_on _ _ _ _ c.loop-i.invariant (search rules) _ (rest_row _ _ _ _ (search rules) (search rules) (search rules))

pub returns : goal.returns
returns c =
    let a = c.args in
    let e : c.loop-i.i ≡ length a.t.now / a.w = omega arith in
    sym e ∙ count_end _ _ _ _ c.loop-i.invariant (rest_none _ _ _ _ (search rules))

pub loop-i-init : goal.loop-i-init
loop-i-init c = count_none _ _ _
