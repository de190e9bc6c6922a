-- `keyed_at` meets its contract. Assumes nothing.
use Rattle.iff.specs.Tables.{row_at}
use Rattle.tables.proofs.Search.{keyed_not, keyed_by}
use Rattle.tables.proofs.keyed_at.Goals as goal

pub returns-then-word_at-tag : goal.returns-then-word_at-tag
returns-then-word_at-tag c =
    let a = c.args in
    keyed_not a.tag a.col a.key (row_at a.w a.t.now a.i) _ c.word_at.ensures c.if-word_at-tag.true

pub returns : goal.returns
returns c =
    let a = c.args in
    keyed_by a.tag a.col a.key (row_at a.w a.t.now a.i) _ c.word_at.ensures _ c.word_at-2.ensures
    c.if-word_at-tag.false
