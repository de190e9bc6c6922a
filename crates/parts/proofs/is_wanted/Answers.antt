-- `parts::is_wanted` meets its contract, arm by arm. Assumes nothing.
use mathlib.Core.Path.{◌∙◌}
use Rattle.parts.specs.Wants.{wants}
use Rattle.parts.proofs.is_wanted.Goals as goal

pub returns-in-Station : goal.returns-in-Station
unfolding wants
returns-in-Station c e = c.is_station.ensures e ∙ rw c.in-Station.is

pub returns-in-Head : goal.returns-in-Head
unfolding wants
returns-in-Head c e = c.is_head.ensures e ∙ rw c.in-Head.is

pub returns-in-Hash : goal.returns-in-Hash
unfolding wants
returns-in-Hash c e = rw (c.first_byte.ensures, c.in-Hash.is)
