-- Digits, or else the wildcard. Assumes nothing.
use Rattle.record_lines.proofs.is_company_or_any.Goals as goal

pub returns-then-all_digits : goal.returns-then-all_digits
returns-then-all_digits c = rw (← c.all_digits.ensures, c.if-all_digits.true)

pub returns : goal.returns
returns c = rw (← c.all_digits.ensures, c.if-all_digits.false) c.is_wildcard.ensures
