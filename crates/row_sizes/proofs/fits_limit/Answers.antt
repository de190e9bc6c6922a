-- Few rows fit whatever they are, and others are looked at. Assumes nothing.
use Rattle.row_sizes.proofs.SizeLaws.{few_rows}
use Rattle.row_sizes.proofs.fits_limit.Goals as goal

pub returns-then-are_few : goal.returns-then-are_few
returns-then-are_few c = few_rows _ _ _ _ c.are_few.ensures c.if-are_few.true _ _

pub returns : goal.returns
returns c = c.fit_one_by_one.ensures
