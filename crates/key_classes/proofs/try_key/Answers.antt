-- `try_key` meets its contract. Assumes nothing.
use mathlib.Core.Path.{sym, ◌∙◌}
use Rattle.key_classes.proofs.ClassLaws.{tried_here, tried_elsewhere}
use Rattle.key_classes.proofs.try_key.Goals as goal

pub returns-then-class_of-class : goal.returns-then-class_of-class
returns-then-class_of-class c =
    let a = c.args in
    tried_here a.classes a.class a.set.now a.key _ _ (sym c.class_of.ensures ∙ c.if-class_of-class.true) c.put_key.ensures

pub returns : goal.returns
returns c =
    let a = c.args in
    tried_elsewhere a.classes a.class a.set.now a.key (λ e. c.if-class_of-class.false (c.class_of.ensures ∙ e))
