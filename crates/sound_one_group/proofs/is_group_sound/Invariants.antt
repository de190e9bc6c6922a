-- `is_group_sound` meets its contract: what is left of the group passes exactly when the whole does. Assumes nothing.
use mathlib.Core.Path.{◌≡◌}
use lib.ListN.{length}
use Rattle.sound_one_group.proofs.GroupLaws.{RowsWalked}
use Rattle.sound_one_group.proofs.is_group_sound.Given as goal

abbrev pub invariant-loop-i : goal.invariant-loop-i
invariant-loop-i l =
    RowsWalked l.file l.form l.counts l.companies l.modes l.stations l.services l.xfootnotes l.w l.t l.from l.to l.i l.stand l.marks × (length l.marks ≡ length l.initial.marks)
