-- The desk's card, request W3: "a table of sixteen entries in the order of the desk's own card, from all wildcards to none". docs/CARD.md has it for
-- the desk, line by line.
use Rattle.std.specs.Prelude.{ℕ, List, [], ◌∷◌, Bool, true, false, ◌&&◌, not, eqb, Option, Some}
use Rattle.iff.specs.Lists.{position}
use Rattle.iff_desk.specs.declared.Best.{Best}

-- an exception's four keys: which of them are named, and not wildcards
pub record Pattern : Type 0 where
  pub from_company : Bool
  pub from_mode : Bool
  pub to_company : Bool
  pub to_mode : Bool

abbrev pub pattern : Bool → Bool → Bool → Bool → Pattern
pattern fc fm tc tm = record { from_company = fc; from_mode = fm; to_company = tc; to_mode = tm }

-- a key on the card: a wildcard, a company, a mode
abbrev any : Bool
any = false

abbrev co : Bool
co = true

abbrev mo : Bool
mo = true

unfoldable pub card : List Pattern
card =
    pattern any any any any ∷
    pattern any any any mo ∷
    pattern any any co any ∷
    pattern any any co mo ∷
    pattern any mo any any ∷
    pattern any mo any mo ∷
    pattern any mo co any ∷
    pattern any mo co mo ∷
    pattern co any any any ∷
    pattern co any any mo ∷
    pattern co any co any ∷
    pattern co any co mo ∷
    pattern co mo any any ∷
    pattern co mo any mo ∷
    pattern co mo co any ∷
    pattern co mo co mo ∷
    []

-- both are named, or neither
abbrev pub alike : Bool → Bool → Bool
alike true b = b
alike false b = not b

-- an entry has this very pattern
abbrev pub same_pattern : Pattern → Pattern → Bool
same_pattern p e =
    alike p.from_company e.from_company && (alike p.from_mode e.from_mode
    && (alike p.to_company e.to_company && alike p.to_mode e.to_mode))

-- a pattern's place on the card, from 0
unfoldable pub place_of : Pattern → ℕ
place_of p = position (same_pattern p) card

-- a key is named where it is not the wildcard
abbrev pub is_named : ℕ → ℕ → Bool
is_named wildcard key = not (eqb key wildcard)

-- a row of XCHANGES that applies: its rank and its time
abbrev pub best_of : ℕ → ℕ → Option Best
best_of rank time = Some (record { rank = rank; time = time })
