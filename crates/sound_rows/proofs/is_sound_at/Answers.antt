-- `is_sound_at` meets its contract: the part that is handed on is row i. Assumes nothing.
use Prim.Native.Nat.{◌-◌}
use Rattle.sound_rows.proofs.RowLaws.{at_row}
use Rattle.sound_rows.proofs.is_sound_at.Goals as goal

pub returns : goal.returns
returns c ctx d k =
    let a = c.args in
    at_row ctx a.file (a.i - 1) a.w a.i a.t.now _ (c.is_row_sound.ensures ctx d k)
