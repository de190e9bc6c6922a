-- `fields::mark_word` meets its contract. The loop's invariant: the word is what the marks from i on make, and is below 2 to their number. Assumes nothing.
use Rattle.text.proofs.ValueLaws.{Marked}
use Rattle.fields.proofs.mark_word.Given as goal

abbrev pub invariant-loop-i : goal.invariant-loop-i
invariant-loop-i l = Marked l.marks l.i l.word
