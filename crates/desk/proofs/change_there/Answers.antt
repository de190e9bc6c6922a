-- `desk::change_there` meets its contract: the rows are counted, and what a change leans on is handed over. No slots are an index of anything.
-- Assumes nothing.
use native.Mathlib.Omega.{arith}
use Rattle.iff.specs.declared.GroupFile.TheVariants.{Changes, Xchanges}
use Rattle.iff.specs.declared.File.TheVariants.{Groups}
use Rattle.slots.proofs.SlotLaws.{few_slots}
use Rattle.desk.proofs.ReadyLaws.{ready}
use Rattle.desk.proofs.change_there.Goals as goal

pub change_in-requires : goal.change_in-requires
change_in-requires c =
    let l = c.requires in
    ready _ _ _ _ _ _ _ _ _ _ l c.count_rows-counts.ensures (few_slots (Groups Changes) _ _ _ (omega arith)) (few_slots (Groups Xchanges) _ _ _ (omega arith))

pub returns : goal.returns
returns c R rows = c.change_in.ensures R rows
