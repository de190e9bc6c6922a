-- `first_word` meets its contract: the first row in use is row 0. Assumes nothing.
use Rattle.store.proofs.LineLaws.{first_none, first_stands, first_is}
use Rattle.store.proofs.first_word.Goals as goal

pub word_at-requires : goal.word_at-requires
word_at-requires c =
    (c.requires.1, first_stands _ _ c.requires.0 c.args.k c.if-used-eq0.false)

pub returns-then-used-eq0 : goal.returns-then-used-eq0
returns-then-used-eq0 c = first_none _ _ c.requires.0 c.args.k c.if-used-eq0.true

pub returns-else-used-eq0 : goal.returns-else-used-eq0
returns-else-used-eq0 c = first_is _ _ c.requires.0 c.args.k c.if-used-eq0.false _ c.word_at.ensures
