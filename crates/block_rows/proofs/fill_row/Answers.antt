-- `block_rows::fill_row` meets its contract: the record's words, the line's number, and for a `#` its counts. Assumes nothing.
use native.Mathlib.Omega.{arith}
use lib.ListN.{length-set}
use Rattle.block_rows.proofs.RowLaws.{readable_as, row_plain, row_head}
use Rattle.block_rows.proofs.fill_row.Goals as goal

pub put_words-requires : goal.put_words-requires
put_words-requires c =
    readable_as _ _ _ _ _ c.first_byte-letter.ensures c.block_record-kind.ensures c.requires.0

pub returns-then-letter-ne35 : goal.returns-then-letter-ne35
returns-then-letter-ne35 c =
    let a = c.args in
    row_plain a.form a.n a.k a.j a.line.now _ _ c.requires.1 _ _ c.first_byte-letter.ensures c.block_record-kind.ensures
    c.put_words.ensures c.if-letter-ne35.true

pub returns : goal.returns
returns c =
    let a = c.args in
    row_head a.form a.n a.k a.j a.line.now _ _ c.requires.1 _ _ c.first_byte-letter.ensures c.block_record-kind.ensures
    c.put_words.ensures c.if-letter-ne35.false

pub bounds-row-2 : goal.bounds-row-2
bounds-row-2 c = simp length-set (omega arith)

pub bounds-row-3 : goal.bounds-row-3
bounds-row-3 c = simp length-set (omega arith)
