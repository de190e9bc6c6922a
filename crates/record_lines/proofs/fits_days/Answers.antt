-- As long as there are days, and allowed bytes. Assumes nothing.
use mathlib.Core.Path.{◌∙◌}
use borrow.Author.Rules.{rules}
use borrow.Author.Tests.{tests}
use Rattle.std.proofs.lemmas.Iterator.{YieldsList-from_slice}
use Rattle.std.proofs.lemmas.Iterator.Search.{all_from_yields_List}
use Rattle.iff.specs.Bytes.{allowed}
use Rattle.records.proofs.VectorLaws.{fits_allowed, fits_not}
use Rattle.record_lines.proofs.AllLaws.{list_all_is}
use Rattle.record_lines.proofs.fits_days.Goals as goal

pub returns-then-line-days : goal.returns-then-line-days
returns-then-line-days c = fits_not _ _ c.if-line-days.true

pub returns : goal.returns
returns c =
    all_from_yields_List allowed _ _ _ c.all.ensures.ran (YieldsList-from_slice c.args.line.now cc) (λ x b q k. search (rules, tests))
    ∙ list_all_is allowed c.args.line.now
    ∙ fits_allowed _ _ c.if-line-days.false
