-- `new_services::tell_new` meets its contract: what lacks a mark is new, and what is searched for is told. Assumes nothing.
use mathlib.Core.Path.{refl, ap, sym, ◌∙◌}
use mathlib.Core.Bool.{not, false≢true, true≢false}
use Rattle.new_services.proofs.tell_new.Goals as goal

pub returns-then-is_unmarked : goal.returns-then-is_unmarked
returns-then-is_unmarked c =
    record { exact = λ t. sym (ap not (c.is_unmarked.ensures _ c.requires.1 c.if-is_unmarked.true)); asked = λ e. refl }

-- it is taken for new, since no search was asked for
pub returns-then-is_dear : goal.returns-then-is_dear
returns-then-is_dear c =
    record {
      exact = λ t. absurd (false≢true t);
      asked = λ e. absurd (true≢false (sym c.if-is_dear.true ∙ c.is_dear.ensures e));
    }
