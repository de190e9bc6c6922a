-- `stop_time_words` meets its contract: in each arm the answer is known. Assumes nothing.
use Rattle.question_numbers.proofs.stop_time_words.Goals as goal

pub returns-in-Ok : goal.returns-in-Ok
returns-in-Ok c = rw (c.in-Ok.is, c.is_there-arrives.ensures, c.is_there-departs.ensures)

pub returns-in-Err : goal.returns-in-Err
returns-in-Err c = rw (c.in-Err.is, c.number_of-number.ensures)
