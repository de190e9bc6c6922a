-- `service_lines::all_follow` meets its contract: what is left to ask is the whole. Assumes nothing.
use Rattle.service_lines.proofs.LinesLaws.{following_not, following_next, following_all, not_ended, is_hash_lem, is_at, is_inner}
use Rattle.service_lines.proofs.all_follow.Goals as goal

pub returns-then-not-line : goal.returns-then-not-line
returns-then-not-line c =
    following_not _ _ _ _ c.in-Some.ensures.steps c.loop-line.invariant (not_ended _ c.if-not-line.true)

pub returns-then-letter-eq35 : goal.returns-then-letter-eq35
returns-then-letter-eq35 c =
    following_not _ _ _ _ c.in-Some.ensures.steps c.loop-line.invariant
    (is_hash_lem _ c.if-not-line.false _ c.first_byte-letter.ensures c.if-letter-eq35.true)

pub returns-then-letter-eq64 : goal.returns-then-letter-eq64
returns-then-letter-eq64 c =
    following_not _ _ _ _ c.in-Some.ensures.steps c.loop-line.invariant
    (is_at _ c.if-not-line.false _ c.first_byte-letter.ensures c.if-letter-eq64.true)

pub loop-line-preserved : goal.loop-line-preserved
loop-line-preserved c =
    following_next _ _ _ _ c.in-Some.ensures.steps c.loop-line.invariant
    (is_inner _ c.if-not-line.false _ c.first_byte-letter.ensures c.if-letter-eq35.false c.if-letter-eq64.false)

pub returns : goal.returns
returns c = following_all _ _ c.in-None.ensures.steps.0 c.loop-line.invariant
