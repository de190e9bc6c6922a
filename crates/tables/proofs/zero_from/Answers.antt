-- `zero_from` meets its contract: std's test of all words from there on is the definition's. Assumes nothing.
use mathlib.Core.Path.{ap, ◌∙◌}
use borrow.Author.Rules.{rules}
use borrow.Author.Tests.{tests}
use lib.Dec.{eqb}
use Rattle.std.proofs.lemmas.Iterator.{YieldsList-from_slice}
use Rattle.std.proofs.lemmas.Iterator.Search.{all_from_yields_List}
use Rattle.iff.specs.Tables.{all_zero}
use Rattle.tables.proofs.Zeros.{zeros_are, rest_from}
use Rattle.tables.proofs.zero_from.Goals as goal

pub returns : goal.returns
returns c =
    all_from_yields_List (eqb 0) c.all.new.self _ _ c.all.ensures.ran (YieldsList-from_slice _ c.iter.ensures.rest) (λ x b q k. search (rules, tests))
    ∙ (zeros_are _ ∙ ap all_zero (rest_from c.args.t.now c.args.from _ c.min.ensures))
