-- An exception's place on the card, by what is known of its four keys. Assumes nothing.
use mathlib.Core.Path.{◌≡◌}
use mathlib.Core.Bool.{Bool}
use Rattle.iff_rules.specs.References.{any_company, any_mode}
use Rattle.iff_desk.specs.declared.Riding.{Riding}
use Rattle.iff_desk.specs.Card.{pattern, place_of, is_named}
use Rattle.iff_desk.specs.Changing.{rank}

-- the place of a pattern whose keys are known
pub known : {a b c d p q r s : Bool} → a ≡ p → b ≡ q → c ≡ r → d ≡ s → place_of (pattern p q r s) ≡ place_of (pattern a b c d)
known e f g h = rw (e, f, g, h)

-- the rank, by each key
pub by_keys_lem : (from to : Riding) {a b c d : Bool}
    → a ≡ is_named any_company from.company → b ≡ is_named any_mode from.mode
    → c ≡ is_named any_company to.company → d ≡ is_named any_mode to.mode
    → place_of (pattern a b c d) ≡ rank from to
unfolding rank
by_keys_lem from to e f g h = rw (e, f, g, h)
