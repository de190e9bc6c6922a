-- `order::goes_by_tag` meets its contract: a byte leads where the letter does, and no other tag leads anywhere. Assumes nothing.
use mathlib.Core.Path.{sym}
use native.Mathlib.Omega.{arith}
use Rattle.order.proofs.TagLaws.{leads_nowhere}
use Rattle.order.proofs.goes_by_tag.Goals as goal

pub returns : goal.returns
returns c =
    let a = c.args in
    sym (leads_nowhere a.tag (omega (arith, c.if-tag-lt256.false)) a.stand)
