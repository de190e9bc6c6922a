-- `heads::first_body` meets its contract. Assumes nothing.
use Rattle.heads.proofs.BeginLaws.{no_body, some_body}
use Rattle.heads.proofs.first_body.Goals as goal

pub returns-then-text-eq0 : goal.returns-then-text-eq0
returns-then-text-eq0 c = no_body _ c.if-text-eq0.true

pub returns : goal.returns
returns c = some_body _ _ c.line_at-s.ensures
