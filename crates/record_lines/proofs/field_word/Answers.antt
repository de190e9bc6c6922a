-- The field's bytes are the definition's columns. Assumes nothing.
use Rattle.record_lines.proofs.ColumnLaws.{part_small, part_word}
use Rattle.record_lines.proofs.field_word.Goals as goal

pub word_of-requires : goal.word_of-requires
word_of-requires c = part_small _ _ c.entry_at-e.ensures _ c.requires

pub returns : goal.returns
returns c = part_word _ _ c.entry_at-e.ensures _ c.requires _ _ c.word_of.ensures
