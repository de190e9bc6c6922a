-- What is left of the room has place for the lines exactly where all have. Assumes nothing.
use mathlib.Core.Path.{ap, ◌∙◌}
use Prim.Native.Nat.{ℕ, ◌+◌, ◌-◌}
use native.Mathlib.Omega.{arith}
use lib.Dec.{leb}
use lib.ListN.{length}
use Rattle.edit_sizes.proofs.EditLaws.{room_left, used_room}
use Rattle.edit_sizes.proofs.has_room.Goals as goal

pub overflow_sub-result : goal.overflow_sub-result
overflow_sub-result c =
    let a = c.args in
    omega (arith, c.room-room.ensures, used_room a.used (length a.t.now) c.requires.2, c.requires.0, c.requires.1)

pub returns : goal.returns
returns c =
    let a = c.args in
    let stay = a.from + (a.used - a.to) in
    ap (λ (n : ℕ). leb a.lines (n - stay)) c.room-room.ensures
    ∙ room_left _ a.from a.lines (a.used - a.to) (omega (arith, used_room a.used (length a.t.now) c.requires.2, c.requires.0, c.requires.1))
