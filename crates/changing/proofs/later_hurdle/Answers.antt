-- `later_hurdle` meets its contract: whether they run, then whether they meet. Assumes nothing.
use mathlib.Core.Path.{ap, sym, ◌∙◌}
use Rattle.changing.specs.Sides.{hurdle_of}
use Rattle.changing.proofs.HurdleLaws.{two_stop, two_clear}
use Rattle.changing.proofs.later_hurdle.Goals as goal

pub returns-in-Some : goal.returns-in-Some
returns-in-Some c R e =
    two_stop _ _ _ c.in-Some.early (sym (c.run_hurdle.ensures R e) ∙ ap hurdle_of c.in-Some.is)

pub returns-in-None : goal.returns-in-None
returns-in-None c R e =
    c.stop_hurdle.ensures R ∙ two_clear _ _ _ (sym (c.run_hurdle.ensures R e) ∙ ap hurdle_of c.in-None.is)
