-- Request W3: a rank by the desk's card is the sum of points that it was, so every change is answered as before. Assumes nothing.
use Rattle.std.specs.Prelude.{Option}
use Prim.Native.Nat.{ℕ, ◌+◌, ◌≤◌}
use mathlib.Core.Path.{◌≡◌, refl, ap, ◌∙◌}
use mathlib.Core.List.{List, [], ◌∷◌}
use mathlib.Core.Bool.{Bool, true, false, ◌&&◌, ◌||◌, not, cond, false≢true}
use borrow.Author.Tests.{eqb-true, leb-true}
use lib.Dec.{eqb, leb}
use Rattle.iff.specs.Lists.{any, all, position}
use Rattle.iff.specs.Files.{PerFile}
use Rattle.iff.specs.Tables.{Row}
use Rattle.iff.specs.Words.{exception_time}
use Rattle.iff_rules.specs.References.{any_company, any_mode}
use Rattle.iff_laws.specs.TruthLaws.{both}
use Rattle.iff_desk.specs.Sound.{sound, rows_of_tables}
use Rattle.iff_desk.specs.Card.{Pattern, pattern, card, alike, same_pattern, place_of, is_named}
use Rattle.iff_desk.specs.Changing.{Side, from_keys, to_keys, pattern_of, rank, better, best, best_at, core_change, change_in, change}
use Rattle.iff_desk.specs.declared.Riding.{Riding}
use Rattle.iff_desk.specs.declared.Call.{Call}
use Rattle.question_laws.specs.Points.{explicit, rank_by_points, best_by_points, core_by_points, change_in_by_points, change_by_points}
use Rattle.iff_desk.specs.declared.Best.{Best}

-- EVERY PATTERN STANDS ON THE CARD
-- a test of both Bools holds of each
abbrev ways : (Bool → Bool) → Bool
ways f = f true && f false

either : (f : Bool → Bool) → ways f ≡ true → (b : Bool) → f b ≡ true
either f e true = (both (f true) (f false) e).0
either f e false = (both (f true) (f false) e).1

abbrev stands : Bool → Bool → Bool → Bool → Bool
stands a b c d = any (same_pattern (pattern a b c d)) card

all_stand : ways (λ a. ways (λ b. ways (λ c. ways (λ d. stands a b c d)))) ≡ true
unfolding any card
all_stand = refl

pub on_card : (p : Pattern) → any (same_pattern p) card ≡ true
on_card p =
    let a = p.from_company in
    let b = p.from_mode in
    let c = p.to_company in
    either (λ d. stands a b c d)
    (either (λ c. ways (λ d. stands a b c d))
    (either (λ b. ways (λ c. ways (λ d. stands a b c d))) (either (λ a. ways (λ b. ways (λ c. ways (λ d. stands a b c d)))) all_stand a) b) c)
    p.to_mode

-- so what is tested of all its entries holds of every pattern
alike_same : (a b : Bool) → alike a b ≡ true → a ≡ b
alike_same true true e = refl
alike_same true false e = absurd (false≢true e)
alike_same false true e = absurd (false≢true e)
alike_same false false e = refl

same : (p e : Pattern) → same_pattern p e ≡ true → p ≡ e
same p e h =
    let first = both (alike p.from_company e.from_company) _ h in
    let second = both (alike p.from_mode e.from_mode) _ first.1 in
    let third = both (alike p.to_company e.to_company) _ second.1 in
    λ i.
    pattern (alike_same p.from_company e.from_company first.0 i) (alike_same p.from_mode e.from_mode second.0 i)
    (alike_same p.to_company e.to_company third.0 i) (alike_same p.to_mode e.to_mode third.1 i)

module _ (test : Pattern → Bool) where
  holds_of : (p : Pattern) (es : List Pattern) → any (same_pattern p) es ≡ true → all test es ≡ true → test p ≡ true
  unfolding any all
  holds_of p [] s h = absurd (false≢true s)
  holds_of p (e ∷ es) s h = go (same_pattern p e) refl s (λ t. holds_of p es t (both (test e) (all test es) h).1)
    where
      go : (b : Bool) → same_pattern p e ≡ b → (b || any (same_pattern p) es) ≡ true → (any (same_pattern p) es ≡ true → test p ≡ true) → test p ≡ true
      go true q s k = rw (same p e q) (both (test e) (all test es) h).0
      go false q s k = k s

-- a rank is at most 15
card_ends : all (λ p. leb (place_of p) 15) card ≡ true
unfolding all card place_of position
card_ends = refl

place_on_card : (p : Pattern) → place_of p ≤ 15
place_on_card p = leb-true _ 15 (holds_of (λ e. leb (place_of e) 15) p card (on_card p) card_ends)

pub rank_on_card : (from to : Riding) → rank from to ≤ 15
unfolding rank
rank_on_card from to = place_on_card (pattern_of from to)

-- THE CARD'S PLACES ARE THE POINTS
abbrev points : Bool → ℕ → ℕ
points named n = cond named n 0

abbrev points_of : Pattern → ℕ
points_of p = points p.from_company 8 + points p.from_mode 4 + points p.to_company 2 + points p.to_mode 1

-- one test over the card
card_counted : all (λ p. eqb (place_of p) (points_of p)) card ≡ true
unfolding all card place_of position
card_counted = refl

pub place_is_points : (p : Pattern) → place_of p ≡ points_of p
place_is_points p = eqb-true _ _ (holds_of (λ e. eqb (place_of e) (points_of e)) p card (on_card p) card_counted)

-- a key has its points where it is named
named_points : (wildcard key n : ℕ) → points (is_named wildcard key) n ≡ explicit wildcard key n
named_points wildcard key n = go (eqb key wildcard)
  where
    go : (b : Bool) → cond (not b) n 0 ≡ cond b 0 n
    go true = refl
    go false = refl

sums : {a b c d e f g h : ℕ} → a ≡ e → b ≡ f → c ≡ g → d ≡ h → a + b + c + d ≡ e + f + g + h
sums p q r s = rw (p, q, r, s)

points_of_keys : (from to : Riding) → points_of (pattern_of from to) ≡ rank_by_points from to
unfolding rank_by_points
points_of_keys from to =
    sums (named_points any_company from.company 8) (named_points any_mode from.mode 4) (named_points any_company to.company 2)
    (named_points any_mode to.mode 1)

pub rank_is_points : (from to : Riding) → rank from to ≡ rank_by_points from to
unfolding rank
rank_is_points from to = place_is_points (pattern_of from to) ∙ points_of_keys from to

-- SO THE BEST ROW STAYS, AND EVERY CHANGE
pub best_stays : (b : Option Best) (rs : List Row) → best b rs ≡ best_by_points b rs
unfolding best best_by_points
best_stays b [] = refl
best_stays b (r ∷ rs) =
    ap (λ (k : ℕ). best (better b k (exception_time r)) rs) (rank_is_points (from_keys r) (to_keys r))
    ∙ best_stays (better b (rank_by_points (from_keys r) (to_keys r)) (exception_time r)) rs

core_stays : (R : PerFile (List Row)) (A B : Call) → core_change R A B ≡ core_by_points R A B
unfolding core_change core_by_points best_at
core_stays R A B = rw best_stays

pub change_stays : (T : PerFile (List ℕ)) (A B : Side) → change T A B ≡ change_by_points T A B
unfolding change change_by_points
change_stays T A B = go (sound T)
  where
    go : (b : Bool) → change_in b (rows_of_tables T) A B ≡ change_in_by_points b (rows_of_tables T) A B
    go true = rw core_stays
    go false = refl
