-- By kind of file. Assumes nothing.
use Rattle.row_sizes.proofs.LineLaws.{of_delivery, of_rows_lem, of_groups_lem, of_blocks}
use Rattle.row_sizes.proofs.longest_line.Goals as goal

pub returns-in-Delivery : goal.returns-in-Delivery
returns-in-Delivery c =
    let a = c.args in
    of_delivery a.form a.file _ c.in-Delivery.is c.record_length.ensures

pub returns-in-Rows : goal.returns-in-Rows
returns-in-Rows c =
    let a = c.args in
    of_rows_lem a.form a.file _ _ _ c.in-Rows.is c.row_record.ensures c.record_length-in-Rows.ensures

pub returns-in-Groups : goal.returns-in-Groups
returns-in-Groups c =
    let a = c.args in
    of_groups_lem a.form a.file _ _ c.in-Groups.is c.longest_in_group.ensures

pub returns-in-Timetbls : goal.returns-in-Timetbls
returns-in-Timetbls c =
    let a = c.args in
    of_blocks a.form a.file c.in-Timetbls.is
