-- `fresh_texts::fresh_texts` meets its contract. Assumes nothing.
use mathlib.Core.Path.{sym, ◌∙◌}
use Rattle.iff.specs.Lines.{lines}
use Rattle.fresh_texts.specs.Texts.{as_line}
use Rattle.fresh_texts.proofs.TextLaws.{fresh_none}
use Rattle.fresh_texts.proofs.fresh_texts.Goals as goal

pub returns : goal.returns
returns c =
    let a = c.args in
    fresh_none a.file (lines a.before.now) (as_line a.line.now) (sym c.has_texts.ensures ∙ c.if-has_texts.false)
