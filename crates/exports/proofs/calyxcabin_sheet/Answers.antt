-- `calyxcabin_sheet` meets its contract: it is `sheets::sheet`'s, with its refusal as a number. Assumes nothing.
use mathlib.Core.Path.{◌∙◌, ap}
use Rattle.iff_desk.specs.Answers.{part_number}
use Rattle.exports.proofs.calyxcabin_sheet.Goals as goal

pub returns : goal.returns
returns c =
    let told = c.sheet-told.ensures in
    record { tells = c.part_number.ensures ∙ ap part_number told.tells; leaves = told.leaves }
