-- Each file's letters. Assumes nothing.
use borrow.Author.Rules.{rules}
use Rattle.iff.specs.Lists.{any}
use Rattle.first_bytes.proofs.is_known_in_group.Goals as goal

pub has_byte-requires : goal.has_byte-requires
unfolding any
has_byte-requires c = search rules

pub has_byte-requires-in-Footnote : goal.has_byte-requires-in-Footnote
unfolding any
has_byte-requires-in-Footnote c = search rules

pub has_byte-requires-in-Changes : goal.has_byte-requires-in-Changes
unfolding any
has_byte-requires-in-Changes c = search rules

pub has_byte-requires-in-Xfootnote : goal.has_byte-requires-in-Xfootnote
unfolding any
has_byte-requires-in-Xfootnote c = search rules

pub has_byte-requires-in-Xchanges : goal.has_byte-requires-in-Xchanges
unfolding any
has_byte-requires-in-Xchanges c = search rules

pub returns-in-Timezone : goal.returns-in-Timezone
unfolding any
returns-in-Timezone c = rw c.in-Timezone.is c.has_byte.ensures

pub returns-in-Footnote : goal.returns-in-Footnote
unfolding any
returns-in-Footnote c = rw c.in-Footnote.is c.has_byte-in-Footnote.ensures

pub returns-in-Changes : goal.returns-in-Changes
unfolding any
returns-in-Changes c = rw c.in-Changes.is c.has_byte-in-Changes.ensures

pub returns-in-Xfootnote : goal.returns-in-Xfootnote
unfolding any
returns-in-Xfootnote c = rw c.in-Xfootnote.is c.has_byte-in-Xfootnote.ensures

pub returns-in-Xchanges : goal.returns-in-Xchanges
unfolding any
returns-in-Xchanges c = rw c.in-Xchanges.is c.has_byte-in-Xchanges.ensures
