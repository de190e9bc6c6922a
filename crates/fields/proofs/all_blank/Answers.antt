-- `fields::all_blank` meets its contract: std's test of all bytes is the definition's. Assumes nothing.
use mathlib.Core.Path.{◌∙◌}
use borrow.Author.Rules.{rules}
use borrow.Author.Tests.{tests}
use lib.Dec.{eqb}
use Rattle.std.proofs.lemmas.Iterator.{YieldsList-from_slice}
use Rattle.std.proofs.lemmas.Iterator.Search.{all_from_yields_List}
use Rattle.iff.specs.Bytes.{blank}
use Rattle.text.proofs.PictureLaws.{all_is}
use Rattle.fields.proofs.all_blank.Goals as goal

pub returns : goal.returns
returns c =
    let s = c.args.field.now in
    all_from_yields_List (eqb blank) _ _ _ c.all.ensures.ran (YieldsList-from_slice s cc) (λ x b q k. search (rules, tests)) ∙ all_is (eqb blank) s
