-- `leg_marks::all_marked` meets its contract: std's test of the marks of legs 1 to `legs` is the definition's. Assumes nothing.
use mathlib.Core.Path.{◌≡◌, ◌∙◌}
use Prim.Native.Nat.{◌+◌, ◌-◌}
use native.Mathlib.Omega.{arith}
use borrow.Author.Rules.{rules}
use borrow.Author.Tests.{tests}
use lib.Dec.{eqb}
use Rattle.std.proofs.lemmas.Iterator.{YieldsList-from_slice}
use Rattle.std.proofs.lemmas.Iterator.Search.{all_from_yields_List}
use Rattle.leg_marks.proofs.MarkLaws.{once_all}
use Rattle.leg_marks.proofs.all_marked.Goals as goal

pub returns : goal.returns
returns c =
    let legs = c.args.legs in
    let n : legs + 1 - 1 ≡ legs = omega arith in
    all_from_yields_List (λ k. eqb k 1) c.all.new.self _ _ c.all.ensures.ran (YieldsList-from_slice _ c.iter.ensures.rest) (λ x b q k. search (rules, tests))
    ∙ rw n (once_all legs c.args.marks.now c.requires)
