-- The test of all bytes. Assumes nothing.
use mathlib.Core.Path.{◌∙◌}
use borrow.Author.Rules.{rules}
use borrow.Author.Tests.{tests}
use Rattle.std.proofs.lemmas.Iterator.{YieldsList-from_slice}
use Rattle.std.proofs.lemmas.Iterator.Search.{all_from_yields_List}
use Rattle.iff.specs.Bytes.{zero_or_one}
use Rattle.record_lines.proofs.AllLaws.{list_all_is}
use Rattle.record_lines.proofs.all_marks.Goals as goal

pub returns : goal.returns
returns c =
    all_from_yields_List zero_or_one _ _ _ c.all.ensures.ran (YieldsList-from_slice c.args.line.now cc) (λ x b q k. search (rules, tests))
    ∙ list_all_is zero_or_one c.args.line.now
