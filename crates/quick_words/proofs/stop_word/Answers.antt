-- 000 and 999 are the two stops that go by another name. Assumes nothing.
use Rattle.quick_words.proofs.FieldLaws.{first_stop_lem, last_stop_lem, that_stop}
use Rattle.quick_words.proofs.stop_word.Goals as goal

pub returns-then-k-eq0 : goal.returns-then-k-eq0
returns-then-k-eq0 c = first_stop_lem _ _ _ c.number-k.ensures c.if-k-eq0.true

pub returns-then-k-eq999 : goal.returns-then-k-eq999
returns-then-k-eq999 c = last_stop_lem _ _ _ c.number-k.ensures c.if-k-eq999.true

pub returns : goal.returns
returns c = that_stop _ _ _ c.number-k.ensures c.if-k-eq0.false c.if-k-eq999.false
