-- `quick_lines::are_right` meets its contract: as many columns as marks, and each pair passes. Assumes nothing.
use Prim.Native.Nat.{ℕ}
use mathlib.Core.Path.{sym, ◌∙◌}
use borrow.Author.Rules.{rules}
use borrow.Author.Tests.{tests}
use Rattle.std.proofs.lemmas.Iterator.{YieldsList-from_slice, YieldsList-from_zip}
use Rattle.std.proofs.lemmas.Iterator.Search.{all_from_yields_List}
use Rattle.text.proofs.PictureLaws.{unequal}
use Rattle.quick_lines.specs.Pictures.{right}
use Rattle.quick_lines.proofs.LookLaws.{all_pairs}
use Rattle.quick_lines.proofs.are_right.Goals as goal

pub returns-then-columns-picture : goal.returns-then-columns-picture
returns-then-columns-picture c = sym (unequal _ _ _ c.if-columns-picture.true)

pub returns : goal.returns
returns c =
    all_from_yields_List (λ (p : ℕ × ℕ). right p.0 p.1) c.all.new.self _ _ c.all.ensures.ran
    (YieldsList-from_zip (YieldsList-from_slice c.args.columns.now cc) (YieldsList-from_slice c.args.picture.now cc))
    (λ x b q k. search (rules, tests))
    ∙ all_pairs c.args.columns.now c.args.picture.now c.if-columns-picture.false
