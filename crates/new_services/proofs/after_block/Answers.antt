-- `new_services::after_block` meets its contract. Assumes nothing.
use mathlib.Core.Path.{ap, ◌∙◌}
use Rattle.fresh_keys.specs.Runs.{step_run}
use Rattle.new_services.proofs.after_block.Goals as goal

pub returns : goal.returns
returns c form =
    record {
      next = c.next_run.ensures ∙ ap (step_run c.args.run) (c.service_of-service.ensures form);
      marks = c.mark.ensures ∙ rw (c.service_of-service.ensures form);
    }
