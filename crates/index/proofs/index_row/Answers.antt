-- `index_row` meets its contract. Assumes nothing.
use Rattle.keys.proofs.Lookup.{key_column}
use Rattle.index.proofs.KeyLaws.{names_here, names_nothing, key_here, row_none, row_new, row_came}
use Rattle.index.proofs.index_row.Goals as goal

pub word_at-requires : goal.word_at-requires
word_at-requires c =
    (c.row_width-w.ensures.some, rw c.row_width-w.ensures.is c.requires.room)

pub returns-then-word_at-tag : goal.returns-then-word_at-tag
returns-then-word_at-tag c =
    let a = c.args in
    row_none a.file a.t.now a.run a.i a.places.now c.requires
    (names_nothing a.file _ _ c.row_width-w.ensures.is c.key_tag-tag.ensures a.t.now a.i _ c.word_at.ensures
    c.if-word_at-tag.true)

pub word_at-key-requires : goal.word_at-key-requires
word_at-key-requires c = (
  key_column c.args.file _ _ _ c.row_width-w.ensures.is c.key_tag-tag.ensures c.key_word-col.ensures,
  (rw c.row_width-w.ensures.is c.requires.room),
)

-- the row names something, and what
pub put_key-requires : goal.put_key-requires
put_key-requires c =
    let a = c.args in (
      c.requires,
      (
        names_here a.file _ _ c.row_width-w.ensures.is c.key_tag-tag.ensures a.t.now a.i _
            c.word_at.ensures c.if-word_at-tag.false,
        key_here a.file _ _ c.row_width-w.ensures.is c.key_word-col.ensures a.t.now a.i _ c.word_at-key.ensures,
      ),
    )

pub returns-then-put_key : goal.returns-then-put_key
returns-then-put_key c =
    let a = c.args in
    row_new a.file a.t.now a.run a.i a.places.now c.word_at-key.result _ _ c.put_key.ensures
    (names_here a.file _ _ c.row_width-w.ensures.is c.key_tag-tag.ensures a.t.now a.i _ c.word_at.ensures c.if-word_at-tag.false)
    (key_here a.file _ _ c.row_width-w.ensures.is c.key_word-col.ensures a.t.now a.i _ c.word_at-key.ensures)
    c.if-put_key.true _ c.next_run.ensures

pub returns : goal.returns
returns c =
    let a = c.args in
    row_came a.file a.t.now a.run a.i a.places.now c.word_at-key.result _ _ c.put_key.ensures
    (names_here a.file _ _ c.row_width-w.ensures.is c.key_tag-tag.ensures a.t.now a.i _ c.word_at.ensures c.if-word_at-tag.false)
    (key_here a.file _ _ c.row_width-w.ensures.is c.key_word-col.ensures a.t.now a.i _ c.word_at-key.ensures)
    c.if-put_key.false
