-- `change_in` meets its contract: A, then B and the core. Assumes nothing.
use Rattle.std.proofs.Common.{rules, ◌≡◌, Err}
use mathlib.Core.Path.{ap, sym, ◌∙◌}
use Rattle.iff_desk.specs.Changing.{call_of, core_change, change_after}
use Rattle.changing.specs.Sides.{side_of}
use Rattle.changing.proofs.AskLaws.{from_fails}
use Rattle.changing.proofs.change_in.Goals as goal
use Rattle.iff.specs.Refusals.{Test}

pub change_to-requires : goal.change_to-requires
change_to-requires c =
    (c.requires, c.find_part-a_part.ensures, λ R d e. sym (c.from_part.ensures R d e) ∙ c.in_ok-from_part.was)

pub returns-in_err-from_part : goal.returns-in_err-from_part
returns-in_err-from_part c R w =
    let a = c.args in
    let handed : c.from_residual.result ≡ Err c.in_err-from_part.field-0.0 = search rules in
    handed ∙ (ap (λ (t : Test). change_after t (core_change R (call_of R (side_of a.from)) (call_of R (side_of a.to))))
    (from_fails R (side_of a.from) (side_of a.to) c.in_err-from_part.field-0.0
    (sym (c.from_part.ensures R w.zones.delivery w.timetbls) ∙ c.in_err-from_part.was)))

pub returns : goal.returns
returns c R w = c.change_to.ensures R w
