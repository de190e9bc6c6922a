-- `stop_time_in` meets its contract: refused as the question is, and else by the stop's row. Assumes nothing.
use Rattle.std.proofs.Common.{rules, ◌∙◌, ◌≡◌, Err}
use Rattle.running.proofs.AskedLaws.{service_rows_lem}
use Rattle.stop_times.proofs.TimeLaws.{times_refused, times_told_lem}
use Rattle.stop_times.proofs.stop_time_in.Goals as goal

pub times_there-requires : goal.times_there-requires
times_there-requires c =
    (c.stop_row-row.ensures.stands, c.requires.2, c.requires.3, c.requires.4)

pub returns-in_err-asked : goal.returns-in_err-asked
returns-in_err-asked c R d t z e =
    let a = c.args in
    let r = service_rows_lem R a.timetbls_used a.service a.timetbls.now _ c.find_group-part.ensures t in
    let handed : c.from_residual.result ≡ Err c.in_err-asked.field-0.0 = search rules in
    handed ∙ (times_refused R a.service a.number a.date _ r _ c.is_stop_number-right.ensures _
    (c.asked.ensures R a.service a.timetbls.now d r) _ c.in_err-asked.was)

pub returns : goal.returns
returns c R d t z e =
    let a = c.args in
    let r = service_rows_lem R a.timetbls_used a.service a.timetbls.now _ c.find_group-part.ensures t in
    times_told_lem R a.service a.number a.date _ r _ c.is_stop_number-right.ensures _
    (c.asked.ensures R a.service a.timetbls.now d r) c.in_ok-asked.was _ c.stop_row-row.ensures.is _
    (c.times_there.ensures R z e)
