-- `words_of` meets its contract: in each arm the answer is known, and each number is its callee's. Assumes nothing.
use Rattle.numbers.proofs.words_of.Goals as goal

pub returns-in-Ok : goal.returns-in-Ok
returns-in-Ok c = rw c.in-Ok.is

pub returns-in-Err : goal.returns-in-Err
returns-in-Err c =
    rw (c.in-Err.is, c.number_of-number.ensures)
    (rw (c.file_of-file.ensures, c.ordinal_of-ordinal.ensures, c.line_of-line.ensures))
