-- The records of each kind of file, by the letter that the tag is. Assumes nothing.
use borrow.Author.Rules.{rules}
use Rattle.iff.specs.Columns.{record_of}
use Rattle.shapes.proofs.RecordLaws.{group_of, block_of}
use Rattle.shapes.proofs.record_of.Goals as goal

pub row_record-requires : goal.row_record-requires
unfolding record_of
row_record-requires c = search rules

pub letter_of-requires : goal.letter_of-requires
unfolding record_of
letter_of-requires c = search rules

pub group_record-requires : goal.group_record-requires
unfolding record_of
group_record-requires c = search rules

pub letter_of-requires-in-Timetbls : goal.letter_of-requires-in-Timetbls
unfolding record_of
letter_of-requires-in-Timetbls c = search rules

pub block_record-requires : goal.block_record-requires
unfolding record_of
block_record-requires c = search rules

pub returns-in-Delivery : goal.returns-in-Delivery
unfolding record_of
returns-in-Delivery c = rw c.in-Delivery.is

pub returns-in-Rows : goal.returns-in-Rows
unfolding record_of
returns-in-Rows c = rw c.in-Rows.is c.row_record.ensures

pub returns-in-Groups : goal.returns-in-Groups
unfolding record_of
returns-in-Groups c = group_of _ _ c.letter_of.ensures _ _ _ c.in-Groups.is c.group_record.ensures

pub returns-in-Timetbls : goal.returns-in-Timetbls
unfolding record_of
returns-in-Timetbls c = block_of _ _ c.letter_of-in-Timetbls.ensures _ _ c.in-Timetbls.is c.block_record.ensures
