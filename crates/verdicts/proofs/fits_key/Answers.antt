-- `fits_key` meets its contract. Assumes nothing.
use borrow.Author.Tests.{eq-eqb, ne_eqb}
use Rattle.verdicts.proofs.fits_key.Goals as goal

pub returns-then-key-any : goal.returns-then-key-any
returns-then-key-any c = rw (eq-eqb _ _ c.if-key-any.true)

pub returns : goal.returns
returns c = rw (ne_eqb _ _ c.if-key-any.false)
