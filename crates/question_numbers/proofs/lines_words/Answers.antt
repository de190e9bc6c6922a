-- `lines_words` meets its contract: each number is its callee's. Assumes nothing.
use Rattle.question_numbers.proofs.lines_words.Goals as goal

pub returns-then-in_block : goal.returns-then-in_block
returns-then-in_block c =
    rw (c.if-in_block.true, c.part_number-number.ensures, c.wide-begins.ensures, c.wide-ends.ensures)

pub returns : goal.returns
returns c =
    rw (c.if-in_block.false, c.part_number-number.ensures, c.wide-begins.ensures, c.wide-ends.ensures)
