-- `text::field_value` meets its contract. The loop's invariant: the value so far is below 256 to the bytes read, and the rest counted behind it is the whole. Assumes nothing.
use Rattle.text.proofs.ValueLaws.{Valued}
use Rattle.text.proofs.field_value.Given as goal

abbrev pub invariant-loop-b : goal.invariant-loop-b
invariant-loop-b l = Valued l.base l.off l.field l.b-index l.acc
