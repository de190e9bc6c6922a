-- Each word beside its field, one after the other, is what the record asks of its words. Assumes nothing.
use Prim.Native.Nat.{◌-◌}
use mathlib.Core.Path.{refl, ◌∙◌}
use borrow.Author.Rules.{rules}
use borrow.Author.Tests.{tests}
use Rattle.std.proofs.lemmas.Iterator.{YieldsList-from_slice, YieldsList-from_range, YieldsList-from_zip}
use Rattle.std.proofs.lemmas.Iterator.Consumers.{YieldsList-at}
use Rattle.std.proofs.lemmas.List.{take_rest}
use Rattle.std.proofs.lemmas.Iterator.Search.{all_from_yields_List}
use lib.ListN.{drop}
use Rattle.shapes.proofs.WordLaws.{pair_fits, words_fit_lem}
use Rattle.shapes.proofs.are_words_right.Goals as goal

pub returns : goal.returns
returns c =
    let a = c.args in
    all_from_yields_List pair_fits c.all.new.self _ _ c.all.ensures.ran
    (YieldsList-from_zip
    (YieldsList-at c.zip.ensures.first (YieldsList-from_slice (drop 1 a.row.now) (c.iter.ensures.rest ∙ take_rest a.row.now 1)))
    (YieldsList-at c.zip.ensures.second (YieldsList-from_range a.first a.end (a.end - a.first) refl refl)))
    (λ x b q k. search (rules, tests))
    ∙ words_fit_lem a.row.now a.first a.end c.requires.0 c.requires.1 c.requires.2
