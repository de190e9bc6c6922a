-- `quick_steps::goes_on` meets its contract: the places of each letter are those of the order. Assumes nothing.
use Rattle.iff.specs.Bytes.{hash, percent, dash, ampersand, asterisk, plus, dot, semicolon, less, greater}
use Rattle.iff.specs.declared.Stand.TheVariants.{Hash, Percent, Dash, Ampersand, Asterisk, Stop, Between, Last}
use Rattle.quick_steps.proofs.PlaceLaws.{hash_goes, percent_goes, dash_goes, ampersand_goes, asterisk_goes, greater_goes, dot_goes, plus_goes}
use Rattle.quick_steps.proofs.PlaceLaws.{semicolon_goes, less_goes, goes_as, goes_nowhere}
use Rattle.quick_steps.proofs.goes_on.Goals as goal

pub returns-in-35 : goal.returns-in-35
returns-in-35 c t h = goes_as _ hash 0 0 Hash hash_goes c.in-35.is c.args.stand _ c.place_in_block-place.ensures _ c.goes_from.ensures t h

pub returns-in-37 : goal.returns-in-37
returns-in-37 c t h = goes_as _ percent 1 2 Percent percent_goes c.in-37.is c.args.stand _ c.place_in_block-place.ensures _ c.goes_from-in-37.ensures t h

pub returns-in-45 : goal.returns-in-45
returns-in-45 c t h = goes_as _ dash 2 3 Dash dash_goes c.in-45.is c.args.stand _ c.place_in_block-place.ensures _ c.goes_from-in-45.ensures t h

pub returns-in-38 : goal.returns-in-38
returns-in-38 c t h = goes_as _ ampersand 3 4 Ampersand ampersand_goes c.in-38.is c.args.stand _ c.place_in_block-place.ensures _ c.goes_from-in-38.ensures t h

pub returns-in-42 : goal.returns-in-42
returns-in-42 c t h = goes_as _ asterisk 4 5 Asterisk asterisk_goes c.in-42.is c.args.stand _ c.place_in_block-place.ensures _ c.goes_from-in-42.ensures t h

pub returns-in-62 : goal.returns-in-62
returns-in-62 c t h = goes_as _ greater 4 5 Stop greater_goes c.in-62.is c.args.stand _ c.place_in_block-place.ensures _ c.goes_from-in-62.ensures t h

pub returns-in-46 : goal.returns-in-46
returns-in-46 c t h = goes_as _ dot 6 7 Stop dot_goes c.in-46.is c.args.stand _ c.place_in_block-place.ensures _ c.goes_from-in-46.ensures t h

pub returns-in-43 : goal.returns-in-43
returns-in-43 c t h = goes_as _ plus 6 7 Stop plus_goes c.in-43.is c.args.stand _ c.place_in_block-place.ensures _ c.goes_from-in-43.ensures t h

pub returns-in-59 : goal.returns-in-59
returns-in-59 c t h = goes_as _ semicolon 6 7 Between semicolon_goes c.in-59.is c.args.stand _ c.place_in_block-place.ensures _ c.goes_from-in-59.ensures t h

pub returns-in-60 : goal.returns-in-60
returns-in-60 c t h = goes_as _ less 6 7 Last less_goes c.in-60.is c.args.stand _ c.place_in_block-place.ensures _ c.goes_from-in-60.ensures t h

pub returns-in_default : goal.returns-in_default
returns-in_default c t h = goes_nowhere t h
