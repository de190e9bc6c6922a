-- The two tests, in order. Assumes nothing.
use borrow.Author.Tests.{lt-ltb, le-ltb}
use Rattle.field_words.proofs.is_number_or_any.Goals as goal

pub returns-then-word-ten_to : goal.returns-then-word-ten_to
returns-then-word-ten_to c = rw (← c.ten_to.ensures, lt-ltb _ _ c.if-word-ten_to.true)

pub returns : goal.returns
returns c = rw (← c.ten_to.ensures, le-ltb _ _ c.if-word-ten_to.false, c.any_code.ensures)
