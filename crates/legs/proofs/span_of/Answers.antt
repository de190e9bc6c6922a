-- `legs::span_of` meets its contract: first and last stand where the tag says. Assumes nothing.
use Rattle.legs.proofs.SpanLaws.{span_percent, span_other}
use Rattle.legs.proofs.span_of.Goals as goal

pub returns-then-row-eq-PERCENT : goal.returns-then-row-eq-PERCENT
returns-then-row-eq-PERCENT c = span_percent _ c.if-row-eq-PERCENT.true

pub returns : goal.returns
returns c = span_other _ c.if-row-eq-PERCENT.false
