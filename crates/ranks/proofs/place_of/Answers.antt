-- `place_of` meets its contract: each way through it is a pattern of the card. Assumes nothing.
use Rattle.iff.specs.Lists.{position}
use Rattle.iff_desk.specs.Card.{card, place_of}
use Rattle.ranks.proofs.CardLaws.{known}
use Rattle.ranks.proofs.place_of.Goals as goal

pub returns-in-true-to_mode : goal.returns-in-true-to_mode
unfolding place_of card position
returns-in-true-to_mode c = known c.in-true.is c.in-true-from_mode.is c.in-true-to_company.is c.in-true-to_mode.is

pub returns-in-false-to_mode : goal.returns-in-false-to_mode
unfolding place_of card position
returns-in-false-to_mode c = known c.in-true.is c.in-true-from_mode.is c.in-true-to_company.is c.in-false-to_mode.is

pub returns-in-true-to_mode-2 : goal.returns-in-true-to_mode-2
unfolding place_of card position
returns-in-true-to_mode-2 c = known c.in-true.is c.in-true-from_mode.is c.in-false-to_company.is c.in-true-to_mode-2.is

pub returns-in-false-to_mode-2 : goal.returns-in-false-to_mode-2
unfolding place_of card position
returns-in-false-to_mode-2 c = known c.in-true.is c.in-true-from_mode.is c.in-false-to_company.is c.in-false-to_mode-2.is

pub returns-in-true-to_mode-3 : goal.returns-in-true-to_mode-3
unfolding place_of card position
returns-in-true-to_mode-3 c = known c.in-true.is c.in-false-from_mode.is c.in-true-to_company-2.is c.in-true-to_mode-3.is

pub returns-in-false-to_mode-3 : goal.returns-in-false-to_mode-3
unfolding place_of card position
returns-in-false-to_mode-3 c = known c.in-true.is c.in-false-from_mode.is c.in-true-to_company-2.is c.in-false-to_mode-3.is

pub returns-in-true-to_mode-4 : goal.returns-in-true-to_mode-4
unfolding place_of card position
returns-in-true-to_mode-4 c = known c.in-true.is c.in-false-from_mode.is c.in-false-to_company-2.is c.in-true-to_mode-4.is

pub returns-in-false-to_mode-4 : goal.returns-in-false-to_mode-4
unfolding place_of card position
returns-in-false-to_mode-4 c = known c.in-true.is c.in-false-from_mode.is c.in-false-to_company-2.is c.in-false-to_mode-4.is

pub returns-in-true-to_mode-5 : goal.returns-in-true-to_mode-5
unfolding place_of card position
returns-in-true-to_mode-5 c = known c.in-false.is c.in-true-from_mode-2.is c.in-true-to_company-3.is c.in-true-to_mode-5.is

pub returns-in-false-to_mode-5 : goal.returns-in-false-to_mode-5
unfolding place_of card position
returns-in-false-to_mode-5 c = known c.in-false.is c.in-true-from_mode-2.is c.in-true-to_company-3.is c.in-false-to_mode-5.is

pub returns-in-true-to_mode-6 : goal.returns-in-true-to_mode-6
unfolding place_of card position
returns-in-true-to_mode-6 c = known c.in-false.is c.in-true-from_mode-2.is c.in-false-to_company-3.is c.in-true-to_mode-6.is

pub returns-in-false-to_mode-6 : goal.returns-in-false-to_mode-6
unfolding place_of card position
returns-in-false-to_mode-6 c = known c.in-false.is c.in-true-from_mode-2.is c.in-false-to_company-3.is c.in-false-to_mode-6.is

pub returns-in-true-to_mode-7 : goal.returns-in-true-to_mode-7
unfolding place_of card position
returns-in-true-to_mode-7 c = known c.in-false.is c.in-false-from_mode-2.is c.in-true-to_company-4.is c.in-true-to_mode-7.is

pub returns-in-false-to_mode-7 : goal.returns-in-false-to_mode-7
unfolding place_of card position
returns-in-false-to_mode-7 c = known c.in-false.is c.in-false-from_mode-2.is c.in-true-to_company-4.is c.in-false-to_mode-7.is

pub returns-in-true-to_mode-8 : goal.returns-in-true-to_mode-8
unfolding place_of card position
returns-in-true-to_mode-8 c = known c.in-false.is c.in-false-from_mode-2.is c.in-false-to_company-4.is c.in-true-to_mode-8.is

pub returns-in-false-to_mode-8 : goal.returns-in-false-to_mode-8
unfolding place_of card position
returns-in-false-to_mode-8 c = known c.in-false.is c.in-false-from_mode-2.is c.in-false-to_company-4.is c.in-false-to_mode-8.is
