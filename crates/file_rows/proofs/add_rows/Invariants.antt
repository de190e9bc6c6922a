-- `file_rows::add_rows` meets its contract. The loop's invariant: what is left to read is the whole. Assumes nothing.
use Prim.Native.Nat.{◌-◌}
use mathlib.Core.Path.{◌≡◌}
use lib.ListN.{length}
use Rattle.file_rows.proofs.ReadLaws.{Reading}
use Rattle.file_rows.proofs.add_rows.Given as goal

abbrev pub invariant-loop-at : goal.invariant-loop-at
invariant-loop-at l =
    Reading l.file l.form l.text l.from l.counts l.countries l.zones l.initial.t l.t l.run l.marks l.at l.count × (length l.marks ≡ length l.initial.marks)

abbrev pub decreases-loop-at : goal.decreases-loop-at
decreases-loop-at l = length l.text - l.at
