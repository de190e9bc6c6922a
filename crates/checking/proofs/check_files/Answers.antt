-- `check_files` meets its contract. Assumes nothing.
use Rattle.checking.proofs.CheckLaws.{line_is}
use Rattle.checking.proofs.check_files.Goals as goal

pub returns : goal.returns
returns c = record { front = c.put_report.ensures.front; appended = line_is c.check-report.ensures c.put_report.ensures.appended }
