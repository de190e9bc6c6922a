-- `text::all_digits` meets its contract: std's test of all bytes is the definition's. Assumes nothing.
use mathlib.Core.Path.{◌∙◌}
use borrow.Author.Rules.{rules}
use borrow.Author.Tests.{tests}
use Rattle.std.proofs.lemmas.Iterator.{YieldsList-from_slice}
use Rattle.std.proofs.lemmas.Iterator.Search.{all_from_yields_List}
use Rattle.iff.specs.Bytes.{digit}
use Rattle.text.proofs.PictureLaws.{all_is}
use Rattle.text.proofs.all_digits.Goals as goal

pub returns : goal.returns
returns c =
    let s = c.args.field.now in
    all_from_yields_List digit _ _ _ c.all.ensures.ran (YieldsList-from_slice s cc) (λ x b q k. search (rules, tests)) ∙ all_is digit s
