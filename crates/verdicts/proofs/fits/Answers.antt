-- `fits` meets its contract: the company and then the mode. Assumes nothing.
use Rattle.references.proofs.References.{any_company_lem, any_mode_lem}
use Rattle.verdicts.proofs.fits.Goals as goal

pub returns-then-fits_key : goal.returns-then-fits_key
returns-then-fits_key c =
    rw (any_company_lem, any_mode_lem, ← c.fits_key.ensures, c.if-fits_key.true) c.fits_key-then-fits_key.ensures

pub returns : goal.returns
returns c = rw (any_company_lem, ← c.fits_key.ensures, c.if-fits_key.false)
