-- `put_report` meets its contract. Assumes nothing.
use Rattle.text_puts.proofs.TextLaws.{at_front}
use Rattle.reports.proofs.put_report.Goals as goal

pub returns-in-Larger : goal.returns-in-Larger
returns-in-Larger c = record { front = at_front c.put_larger.ensures; appended = rw c.in-Larger.is c.put_larger.ensures }

pub returns-in-Answered : goal.returns-in-Answered
returns-in-Answered c = record { front = at_front c.put_answer.ensures; appended = rw c.in-Answered.is c.put_answer.ensures }
