-- `is_sound_at` meets its contract: the part that is handed on is row i. Assumes nothing.
use mathlib.Core.Path.{◌∙◌}
use native.Mathlib.Omega.{arith}
use Rattle.sound_group_rows.proofs.RowLaws.{at_row, part_width}
use Rattle.sound_group_rows.proofs.is_sound_at.Goals as goal

pub is_row_sound-requires : goal.is_row_sound-requires
is_row_sound-requires c =
    let a = c.args in
    let w = c.requires.0 in
    (c.requires.1, rw (← w) (omega arith), part_width a.w a.i a.t.now c.requires.2 ∙ w, rw (← w) c.requires.3, rw (← w) c.requires.4)

pub returns : goal.returns
returns c =
    let a = c.args in
    at_row a.form a.counts a.companies.now a.modes.now a.stations.now a.services.now a.xfootnotes.now
    a.file a.w a.i a.from a.t.now c.requires.0 _ _ c.is_row_sound.ensures
