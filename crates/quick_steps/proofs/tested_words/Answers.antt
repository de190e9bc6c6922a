-- `quick_steps::tested_words` meets its contract: each record by the law of its kind. Assumes nothing.
use mathlib.Core.Path.{sym, ◌∙◌}
use borrow.Author.Tests.{not-false}
use Rattle.quick_steps.proofs.LineLaws.{nothing}
use Rattle.quick_steps.proofs.KindLaws.{service_passes, train_passes, validity_passes, transport_passes, attribute_passes, interval_passes}
use Rattle.quick_steps.proofs.KindLaws.{passed_passes, stop_passes}
use Rattle.quick_steps.proofs.tested_words.Goals as goal

pub returns-in-35 : goal.returns-in-35
returns-in-35 c h =
    let a = c.args in
    service_passes a.form a.counts a.companies.now a.modes.now a.stations.now a.footnotes.now a.block.now a.at
    a.n a.k a.stops _ h a.letter c.requires.1 c.in-35.is (c.service_head.ensures h)

pub returns-in-37 : goal.returns-in-37
returns-in-37 c h =
    let a = c.args in
    train_passes a.form a.counts a.companies.now a.modes.now a.stations.now a.footnotes.now a.block.now a.at
    a.n a.k a.stops _ h a.letter c.requires.1 c.in-37.is (c.train_number.ensures h)

pub returns-in-45 : goal.returns-in-45
returns-in-45 c h =
    let a = c.args in
    validity_passes a.form a.counts a.companies.now a.modes.now a.stations.now a.footnotes.now a.block.now a.at
    a.n a.k a.stops _ h a.letter c.requires.1 c.in-45.is (c.validity.ensures h)

pub returns-in-38 : goal.returns-in-38
returns-in-38 c h =
    let a = c.args in
    transport_passes a.form a.counts a.companies.now a.modes.now a.stations.now a.footnotes.now a.block.now a.at
    a.n a.k a.stops _ h a.letter c.requires.1 c.in-38.is (c.transport.ensures h)

pub returns-in-42 : goal.returns-in-42
returns-in-42 c h =
    let a = c.args in
    attribute_passes a.form a.counts a.companies.now a.modes.now a.stations.now a.footnotes.now a.block.now a.at
    a.n a.k a.stops _ h a.letter c.requires.1 c.in-42.is (c.attribute.ensures h)

pub returns-in-43 : goal.returns-in-43
returns-in-43 c h =
    let a = c.args in
    interval_passes a.form a.counts a.companies.now a.modes.now a.stations.now a.footnotes.now a.block.now a.at
    a.n a.k a.stops _ h a.letter c.requires.1 c.in-43.is (c.interval.ensures h)

pub returns-in-59 : goal.returns-in-59
returns-in-59 c h =
    let a = c.args in
    passed_passes a.form a.counts a.companies.now a.modes.now a.stations.now a.footnotes.now a.block.now a.at
    a.n a.k a.stops _ h a.letter c.requires.1 c.in-59.is (c.passed.ensures h)

pub returns-else-not-is_stop : goal.returns-else-not-is_stop
returns-else-not-is_stop c h =
    let a = c.args in
    stop_passes a.form a.counts a.companies.now a.modes.now a.stations.now a.footnotes.now a.block.now a.at
    a.n a.k a.stops _ h a.letter c.requires.1 (sym c.is_stop.ensures ∙ not-false _ c.if-not-is_stop.false-raw)
    c.in_default.in_default-own.rest.0.1 (c.plain_stop.ensures h)

pub returns-then-not-is_stop : goal.returns-then-not-is_stop
returns-then-not-is_stop c h = nothing _ c.untold.ensures h
