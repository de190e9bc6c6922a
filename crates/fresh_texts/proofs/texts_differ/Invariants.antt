-- `fresh_texts::texts_differ` meets its contract. The loop's invariant: what is left to look at is the whole. Assumes nothing.
use Rattle.iff.specs.Lines.{lines}
use Rattle.text_lines.specs.Left.{lines_left}
use Rattle.fresh_texts.specs.Texts.{as_line}
use Rattle.fresh_texts.proofs.TextLaws.{Unshared}
use Rattle.fresh_texts.proofs.texts_differ.Given as goal

abbrev pub invariant-loop-earlier : goal.invariant-loop-earlier
invariant-loop-earlier l = Unshared l.file (as_line l.line) (lines l.before) (lines_left l.earlier-iterator)
