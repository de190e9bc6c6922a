-- Here, and nowhere else, a path is opened.
use Rattle.folders.specs.Reads.{opened_by_call, not_text}
use Rattle.folders.proofs.open_at.Goals as goal

pub returns-in-Ok : goal.returns-in-Ok
returns-in-Ok g c = opened_by_call c.ok.result

pub returns-in-Err : goal.returns-in-Err
returns-in-Err g c = not_text c.in-Err.ensures.cases.0
