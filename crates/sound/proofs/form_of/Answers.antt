-- `sound::form_of` meets its contract: the span of its days. Assumes nothing.
use Rattle.sound.proofs.WholeLaws.{form_span}
use Rattle.sound.proofs.form_of.Goals as goal

pub returns : goal.returns
returns c =
    let a = c.args in
    form_span a.first.now _ c.span-days.ensures
