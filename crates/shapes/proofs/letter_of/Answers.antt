-- A byte is its own letter, and what is none has no record's. Assumes nothing.
use mathlib.Core.Path.{refl}
use Rattle.shapes.proofs.RecordLaws.{no_byte}
use Rattle.shapes.proofs.letter_of.Goals as goal

pub returns-then-tag-lt256 : goal.returns-then-tag-lt256
returns-then-tag-lt256 c = record { same = λ k some few. refl }

pub returns-else-tag-lt256 : goal.returns-else-tag-lt256
returns-else-tag-lt256 c = no_byte _ c.if-tag-lt256.false
