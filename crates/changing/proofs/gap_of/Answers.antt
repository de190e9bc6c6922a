-- `gap_of` meets its contract. Assumes nothing.
use mathlib.Core.Path.{◌∙◌}
use borrow.Author.Rules.{rules}
use mir.Facts.{to_z-of_z}
use mir.Syntax.{w32}
use Rattle.changing.proofs.gap_of.Goals as goal

pub gap-requires : goal.gap-requires
gap-requires c =
    (c.requires.0.few _ _ c.in-Some.is, (c.requires.1.few _ _ c.in-Some-departure.is, (c.requires.2, c.requires.3)))

pub returns-in-Some-departure : goal.returns-in-Some-departure
returns-in-Some-departure c =
    to_z-of_z {w = w32} {z = c.gap.result} (search rules) ∙ rw (c.in-Some.is, c.in-Some-departure.is) c.gap.ensures

pub returns-in-None-departure : goal.returns-in-None-departure
returns-in-None-departure c = rw (c.in-Some.is, c.in-None-departure.is)

pub returns-in-None : goal.returns-in-None
returns-in-None c = rw c.in-None.is
