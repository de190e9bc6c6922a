-- `fields::has_figures` meets its contract: std's test of all pairs is the definition's. Assumes nothing.
use Prim.Native.Nat.{ℕ}
use mathlib.Core.Path.{sym, ◌∙◌}
use borrow.Author.Rules.{rules}
use borrow.Author.Tests.{tests}
use Rattle.std.proofs.lemmas.Iterator.{YieldsList-from_slice, YieldsList-from_zip}
use Rattle.std.proofs.lemmas.Iterator.Search.{all_from_yields_List}
use Rattle.iff.specs.Columns.{figure}
use Rattle.text.proofs.PictureLaws.{unequal, all_pairs}
use Rattle.fields.proofs.has_figures.Goals as goal

pub returns-then-line-picture : goal.returns-then-line-picture
returns-then-line-picture c = sym (unequal _ _ _ c.if-line-picture.true)

pub returns : goal.returns
returns c =
    let s = c.args.line.now in
    let t = c.args.picture.now in
    all_from_yields_List (λ (p : ℕ × ℕ). figure p.0 p.1) c.all.new.self _ _ c.all.ensures.ran
    (YieldsList-from_zip (YieldsList-from_slice s cc) (YieldsList-from_slice t cc)) (λ x b q k. search (rules, tests))
    ∙ all_pairs figure s t c.if-line-picture.false
