-- `count_stops` meets its contract: the rows that are stops, counted one by one. Assumes nothing.
use Prim.Native.Nat.{ℕ, ◌-◌}
use mathlib.Core.Path.{refl, ◌∙◌}
use borrow.Author.Rules.{rules}
use borrow.Author.Tests.{tests}
use Rattle.std.proofs.lemmas.Iterator.{YieldsList-from_range}
use Rattle.std.proofs.lemmas.Iterator.Consumers.{YieldsList-from_filter, YieldsList-at, count_from_yields_List}
use Rattle.iff.specs.Tables.{tag, row_at, row_width}
use Rattle.iff.specs.declared.File.TheVariants.{Timetbls}
use Rattle.iff_rules.specs.Order.{is_stop}
use Rattle.service_rows.proofs.StopLaws.{stops_counted}
use Rattle.service_rows.proofs.count_stops.Goals as goal

pub returns : goal.returns
returns c =
    let p = c.args.part in
    count_from_yields_List c.filter.result c.count.result c.count.ensures.ran
    (YieldsList-from_filter _ (λ (i : ℕ). is_stop (tag (row_at (row_width Timetbls) c.args.t.now i)))
    (YieldsList-at c.filter.ensures.source (YieldsList-from_range p.from p.to (p.to - p.from) refl refl)) c.filter.ensures.closure
    (λ x b q k. search (rules, tests)))
    ∙ stops_counted (row_width Timetbls) c.args.t.now p.from p.to
