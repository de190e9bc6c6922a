-- 64 marks from the k-th 64 on, or none. Assumes nothing.
use mathlib.Core.Path.{◌∙◌, ap}
use Prim.Native.Nat.{◌*◌}
use Rattle.iff.specs.Values.{bits}
use Rattle.text.proofs.LineLaws.{rest_part}
use Rattle.records.proofs.VectorLaws.{marks_from, marks_none}
use Rattle.record_lines.proofs.marks_at.Goals as goal

pub returns-then-line-at : goal.returns-then-line-at
returns-then-line-at c = marks_none _ _ c.if-line-at.true

pub mark_word-requires : goal.mark_word-requires
mark_word-requires c = rw rest_part (marks_from (c.args.k * 64) _ c.requires.1)

pub returns : goal.returns
returns c = c.mark_word.ensures ∙ (let a = c.args in ap (bits 64) (rest_part a.line.now (a.k * 64)))
