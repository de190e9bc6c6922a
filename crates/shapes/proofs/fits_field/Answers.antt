-- The entry's class and width are the field's. Assumes nothing.
use mathlib.Core.Path.{◌∙◌}
use Rattle.shapes.proofs.WordLaws.{entry_digits, entry_fits}
use Rattle.shapes.proofs.fits_field.Goals as goal

pub fits_class-requires : goal.fits_class-requires
fits_class-requires c = entry_digits _ c.requires _ c.entry_at-e.ensures

pub returns : goal.returns
returns c = c.fits_class.ensures ∙ entry_fits _ c.requires _ c.entry_at-e.ensures _
