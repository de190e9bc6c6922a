-- `is_right` meets its contract: each arm is the law of a kind. Assumes nothing.
use Rattle.row_tests.proofs.RowLaws.{service_row, train_row, validity_row, transport_row, attribute_row, interval_row}
use Rattle.row_tests.proofs.RowLaws.{passed_row, platform_row, plain_row}
use Rattle.row_tests.proofs.is_right.Goals as goal

pub returns-in-35 : goal.returns-in-35
returns-in-35 c k g =
    service_row k c.args.stops c.args.row.now c.requires c.in-35.is _ c.are_zero.ensures _ c.is_service.ensures

pub returns-in-37 : goal.returns-in-37
returns-in-37 c k g =
    train_row k c.args.stops c.args.row.now c.requires c.in-37.is _ c.are_zero-in-37.ensures _ g.companies _
    c.is_train.ensures

pub returns-in-45 : goal.returns-in-45
returns-in-45 c k g =
    validity_row k c.args.stops c.args.row.now c.requires c.in-45.is _ c.are_zero-in-45.ensures _ g.footnotes
    _ c.is_validity.ensures

pub returns-in-38 : goal.returns-in-38
returns-in-38 c k g =
    transport_row k c.args.stops c.args.row.now c.requires c.in-38.is _ c.are_zero-in-38.ensures _ g.modes _
    c.is_transport.ensures

pub returns-in-42 : goal.returns-in-42
returns-in-42 c k g =
    attribute_row k c.args.stops c.args.row.now c.requires c.in-42.is _ c.are_zero-in-42.ensures _ g.footnotes
    _ c.is_attribute.ensures

pub returns-in-43 : goal.returns-in-43
returns-in-43 c k g =
    interval_row k c.args.stops c.args.row.now c.requires c.in-43.is _ c.are_zero-in-43.ensures _
    c.block_means.ensures _ g.stations _ c.is_interval.ensures

pub returns-in-59 : goal.returns-in-59
returns-in-59 c k g =
    passed_row k c.args.stops c.args.row.now c.requires c.in-59.is _ c.are_zero-in-59.ensures _ g.stations _
    c.is_passed.ensures

pub returns-in-63 : goal.returns-in-63
returns-in-63 c k g =
    platform_row k c.args.stops c.args.row.now c.requires c.in-63.is _ c.are_zero-in-63.ensures _ g.footnotes
    _ c.is_platform.ensures

pub returns-in_default : goal.returns-in_default
returns-in_default c k g =
    let q = c.in_default.in_default-own.rest in
    plain_row k c.args.stops c.args.row.now c.requires q.0.0.0.0.0.0.0.1 q.0.0.0.0.0.0.1 q.0.0.0.0.0.1
    q.0.0.0.0.1 q.0.0.0.1 q.0.0.1 q.0.1 q.1
    _ c.are_zero-in_default.ensures _ c.block_means-in_default.ensures _ g.stations _ c.is_plain_stop.ensures
