-- `running_in` meets its contract: refused as the question is, and else told by the leg's vector. Assumes nothing.
use Rattle.std.proofs.Common.{rules, ◌≡◌, Err}
use mathlib.Core.Path.{◌∙◌}
use Rattle.running.proofs.AskedLaws.{service_rows_lem, leg_right, running_refused, running_told}
use Rattle.running.proofs.running_in.Goals as goal

pub returns-in_err-asked : goal.returns-in_err-asked
returns-in_err-asked c R d t f =
    let a = c.args in
    let e = service_rows_lem R a.timetbls_used a.service a.timetbls.now _ c.find_group-part.ensures t in
    let handed : c.from_residual.result ≡ Err c.in_err-asked.field-0.0 = search rules in
    handed ∙ (running_refused R a.service a.leg a.date _ e _ (leg_right _ a.leg _ c.count_stops.ensures _ c.is_leg-right.ensures) _ (c.asked.ensures R a.service a.timetbls.now d e) _
    c.in_err-asked.was)

pub returns : goal.returns
returns c R d t f =
    let a = c.args in
    let e = service_rows_lem R a.timetbls_used a.service a.timetbls.now _ c.find_group-part.ensures t in
    c.runs.ensures
    ∙ running_told R a.service a.leg a.date _ e _ (leg_right _ a.leg _ c.count_stops.ensures _ c.is_leg-right.ensures) _ (c.asked.ensures R a.service a.timetbls.now d e)
    c.in_ok-asked.was _ (c.day_on-day.ensures R d) _ (c.runs_on.ensures R f)
