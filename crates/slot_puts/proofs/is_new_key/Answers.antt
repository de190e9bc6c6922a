-- `is_new_key` meets its contract: keys that still rise tell it, or a search. Assumes nothing.
use mathlib.Core.Path.{ap, ◌∙◌}
use mathlib.Core.Bool.{not}
use Rattle.iff.specs.Lists.{has}
use Rattle.keys.proofs.Among.{keys_there}
use Rattle.slot_puts.proofs.PutLaws.{new_by_run}
use Rattle.slot_puts.proofs.is_new_key.Goals as goal

pub returns-then-next : goal.returns-then-next
returns-then-next c =
    let a = c.args in
    new_by_run a.file a.t.now a.i a.run _ a.key c.requires.0 c.next_run-next.ensures c.if-next.true

pub returns : goal.returns
returns c =
    let a = c.args in
    ap not (c.names_among.ensures ∙ ap (has a.key) (keys_there a.file a.t.now a.i c.requires.1))
