-- `marks::is_fresh` meets its contract: what lacks a mark has not come. Assumes nothing.
use mathlib.Core.Path.{sym, ap}
use mathlib.Core.Bool.{not}
use Rattle.keys.specs.Lookup.{keys_in}
use Rattle.marks.proofs.is_fresh.Goals as goal

pub returns-then-is_unmarked : goal.returns-then-is_unmarked
returns-then-is_unmarked c =
    let a = c.args in
    sym (ap not (c.is_unmarked.ensures (keys_in a.file a.t.now) c.requires.1 c.if-is_unmarked.true))
