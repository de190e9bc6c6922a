-- `word_of` meets its contract: a word of the row, or 0. Assumes nothing.
use Rattle.store.proofs.word_of.Goals as goal

pub word_at-requires : goal.word_at-requires
word_at-requires c =
    (c.requires.0, c.requires.1 _ c.in-Some.is)

pub returns-in-Some : goal.returns-in-Some
returns-in-Some c = rw c.in-Some.is c.word_at.ensures
