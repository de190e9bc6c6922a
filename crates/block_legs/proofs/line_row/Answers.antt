-- `block_legs::line_row` meets its contract: the record of the line's letter. Assumes nothing.
use Rattle.block_legs.proofs.RowLaws.{reads_row, row_read}
use Rattle.block_legs.proofs.line_row.Goals as goal

pub put_words-requires : goal.put_words-requires
put_words-requires c =
    reads_row _ _ _ _ c.first_byte-letter.ensures c.block_record-kind.ensures c.requires.0 _ c.requires.1

pub returns : goal.returns
returns c =
    row_read c.args.form _ _ _ _ _ c.first_byte-letter.ensures c.block_record-kind.ensures _ c.requires.1 c.put_words.ensures
