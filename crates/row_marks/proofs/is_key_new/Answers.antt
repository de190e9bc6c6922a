-- `row_marks::is_key_new` meets its contract: a key whose number is not marked has not come. Assumes nothing.
use mathlib.Core.List.{map}
use Rattle.iff.specs.declared.File.TheVariants.{Rows}
use Rattle.keys.specs.Lookup.{keys_in}
use Rattle.row_marks.specs.Remembered.{spread_of}
use Rattle.row_marks.proofs.RememberLaws.{new_key}
use Rattle.row_marks.proofs.is_key_new.Goals as goal

pub returns-then-is_unmarked : goal.returns-then-is_unmarked
returns-then-is_unmarked c =
    let keys = keys_in (Rows c.args.file) c.args.t.now in
    new_key keys c.args.key _ c.spread.ensures
    (c.is_unmarked.ensures (map spread_of keys) (c.requires.1 c.if-marks-eq-MARKS.true) c.if-is_unmarked.true)
