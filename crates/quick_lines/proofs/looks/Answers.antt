-- `quick_lines::looks` meets its contract: right columns and CR LF behind them are a line. Assumes nothing.
use mathlib.Core.Path.{refl, sym, ◌∙◌}
use mathlib.Core.Bool.{false≢true}
use native.Mathlib.Omega.{arith}
use borrow.Author.Tests.{not-false}
use Rattle.quick_lines.proofs.LookLaws.{pictured}
use Rattle.quick_lines.proofs.looks.Goals as goal

pub returns : goal.returns
returns c h =
    let a = c.args in
    pictured a.text.now a.at _ a.picture.now c.requires (omega (arith, c.if-left-picture-lt2.false)) refl
    (sym c.ends_at.ensures ∙ not-false _ c.if-not-ends_at.false-raw) (sym c.are_right.ensures ∙ h)

pub returns-then-left-picture : goal.returns-then-left-picture
returns-then-left-picture c h = absurd (false≢true h)

pub returns-then-left-picture-lt2 : goal.returns-then-left-picture-lt2
returns-then-left-picture-lt2 c h = absurd (false≢true h)

pub returns-then-not-ends_at : goal.returns-then-not-ends_at
returns-then-not-ends_at c h = absurd (false≢true h)
