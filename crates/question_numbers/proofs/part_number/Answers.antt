-- `part_number` meets its contract: where there is a reason, its number. Assumes nothing.
use Rattle.question_numbers.proofs.part_number.Goals as goal

pub returns-in-Err : goal.returns-in-Err
returns-in-Err c = rw c.in-Err.is c.number_of.ensures
