-- `text::is_digit` meets its contract. Assumes nothing.
use borrow.Author.Rules.{rules}
use Rattle.iff.specs.Bytes.{digit}
use Rattle.text.proofs.is_digit.Goals as goal

pub returns : goal.returns
unfolding digit
returns c = search rules
