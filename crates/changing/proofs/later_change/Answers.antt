-- `later_change` meets its contract: the sides, the hurdles, the verdict. Assumes nothing.
use mathlib.Core.Path.{ap, sym, ◌∙◌}
use Rattle.changing.specs.Sides.{stop_found, hurdle_of}
use Rattle.needed_times.specs.Needed.{rows_found}
use Rattle.changing.proofs.CoreLaws.{later_stops, later_clear, sides_found}
use Rattle.changing.proofs.later_change.Goals as goal

pub judged-requires : goal.judged-requires
judged-requires c =
    let p = c.requires in
    (p.0.zones, p.0.needs, c.find_side-a.ensures, c.find_side-b.ensures, p.1, p.2)

pub returns-in-Some : goal.returns-in-Some
returns-in-Some c R w =
    let t = c.args.timetbls.now in
    let a = c.find_side-a.result in
    let b = c.find_side-b.result in
    later_stops R (rows_found t a) (rows_found t b) (stop_found t a) (stop_found t b) a.station b.station c.args.from c.args.to
    c.in-Some.early (sym (c.later_hurdle.ensures R w.footnote) ∙ ap hurdle_of c.in-Some.is)
    ∙ sides_found R t c.args.from c.args.to a b w.timetbls c.find_side-a.ensures c.find_side-b.ensures

pub returns-in-None : goal.returns-in-None
returns-in-None c R w =
    let t = c.args.timetbls.now in
    let a = c.find_side-a.result in
    let b = c.find_side-b.result in
    c.judged.ensures R w.zones w.needs
    ∙ later_clear R (rows_found t a) (rows_found t b) (stop_found t a) (stop_found t b) a.station b.station c.args.from
    c.args.to (sym (c.later_hurdle.ensures R w.footnote) ∙ ap hurdle_of c.in-None.is)
    ∙ sides_found R t c.args.from c.args.to a b w.timetbls c.find_side-a.ensures c.find_side-b.ensures
