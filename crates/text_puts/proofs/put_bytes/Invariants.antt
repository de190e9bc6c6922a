-- The bytes put so far are the front of the text.
use Rattle.std.proofs.Common.{take}
use Rattle.text_puts.specs.Texts.{Appended}
use Rattle.text_puts.proofs.put_bytes.Given as goal

abbrev pub invariant-loop-b : goal.invariant-loop-b
invariant-loop-b l = Appended l.initial.out l.at (take l.b-index l.text) l.out l.to
