-- `timetbls::stray_test` meets its contract: each way out is one of the laws of a stray line. Assumes nothing.
use Rattle.timetbls.proofs.StrayLaws.{stray_none, stray_open, stray_known, stray_unknown}
use Rattle.timetbls.proofs.stray_test.Goals as goal

pub returns-then-text-from : goal.returns-then-text-from
returns-then-text-from c = stray_none _ _ c.if-text-from.true

pub returns-then-letter-eq35 : goal.returns-then-letter-eq35
returns-then-letter-eq35 c = stray_open _ _ _ c.line_at-span.ensures _ c.first_byte-letter.ensures c.if-letter-eq35.true

pub returns-then-is_known_in_block : goal.returns-then-is_known_in_block
returns-then-is_known_in_block c = stray_known _ _ _ c.line_at-span.ensures _ c.first_byte-letter.ensures c.if-letter-eq35.false
    _ c.is_known_in_block.ensures c.if-is_known_in_block.true

pub returns : goal.returns
returns c = stray_unknown _ _ _ c.line_at-span.ensures _ c.first_byte-letter.ensures c.if-letter-eq35.false
    _ c.is_known_in_block.ensures c.if-is_known_in_block.false
