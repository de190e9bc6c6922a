-- `find_period` meets its contract: a zone's periods are the rows behind its `#`. Assumes nothing.
use Rattle.periods.proofs.PeriodLaws.{period_none, period_in}
use Rattle.periods.proofs.find_period.Goals as goal

pub returns-then-part : goal.returns-then-part
returns-then-part c =
    let a = c.args in
    period_none a.used a.t.now a.zone a.day _ c.find_group-part.ensures c.if-part.true

pub returns : goal.returns
returns c =
    let a = c.args in
    period_in a.used a.t.now a.zone a.day _ c.find_group-part.ensures c.if-part.false _ c.period_in.ensures
