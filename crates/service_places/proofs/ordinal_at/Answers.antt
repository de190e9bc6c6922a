-- `service_places::ordinal_at` meets its contract: the rows before the block are a table of their own. Assumes nothing.
use borrow.Author.Rules.{rules}
use Rattle.service_places.proofs.PlaceLaws.{front_fits, counted_before, services_few}
use Rattle.service_places.proofs.ordinal_at.Goals as goal

pub overflow_mul-end : goal.overflow_mul-end
overflow_mul-end c =
    let h = front_fits c.args.t.now c.args.from c.requires in
    search (rules, h)

pub slice_bounds-count_services-end : goal.slice_bounds-count_services-end
slice_bounds-count_services-end c =
    front_fits c.args.t.now c.args.from c.requires

pub overflow_add-result : goal.overflow_add-result
overflow_add-result c =
    let l = services_few c.args.t.now c.args.from c.requires in
    let f = front_fits c.args.t.now c.args.from c.requires in
    let r = counted_before c.args.t.now c.args.from c.requires _ c.count_services.ensures in
    search (rules, l, f, r)

pub returns : goal.returns
returns c =
    counted_before c.args.t.now c.args.from c.requires c.count_services.result c.count_services.ensures
