-- A letter's places in a block are those that the order says: by its letter, a line goes from two places at most. Assumes nothing.
use Rattle.std.specs.Prelude.{None, Option, Some}
use Prim.Native.Nat.{ℕ, ◌≤◌, ◌<◌}
use mathlib.Core.Path.{◌≡◌, refl, ap, sym, ◌∙◌}
use native.Mathlib.Omega.{arith}
use borrow.Author.Tests.{lt-ltb, le-ltb}
use Rattle.iff.specs.Bytes.{hash, percent, dash, ampersand, asterisk, plus, dot, semicolon, less, greater}
use Rattle.iff.specs.declared.Stand.{Stand}
use Rattle.iff.specs.declared.Stand.TheVariants.{Start, Hash, Percent, Dash, Ampersand, Asterisk, Stop, Between, Last, LastPlatform}
use Rattle.iff_rules.specs.Order.{goes}
use Rattle.quick_steps.specs.Places.{place_in_block, goes_from}

-- what holds wherever a block stands
by_stand : (P : Stand → Type 0) → P Start → P Hash → P Percent → P Dash → P Ampersand → P Asterisk → P Stop → P Between → P Last → P LastPlatform
    → (s : Stand) → P s
by_stand P a b c d e f g h i j Start = a
by_stand P a b c d e f g h i j Hash = b
by_stand P a b c d e f g h i j Percent = c
by_stand P a b c d e f g h i j Dash = d
by_stand P a b c d e f g h i j Ampersand = e
by_stand P a b c d e f g h i j Asterisk = f
by_stand P a b c d e f g h i j Stop = g
by_stand P a b c d e f g h i j Between = h
by_stand P a b c d e f g h i j Last = i
by_stand P a b c d e f g h i j LastPlatform = j

-- a letter goes from these places, and from nowhere else
abbrev GoesFrom : ℕ → ℕ → ℕ → Stand → Type 0
GoesFrom x first last to = (s : Stand) → goes s x ≡ goes_from (place_in_block s) first last to

pub hash_goes : GoesFrom hash 0 0 Hash
unfolding goes goes_from
hash_goes = by_stand (λ s. goes s hash ≡ goes_from (place_in_block s) 0 0 Hash) refl refl refl refl refl refl refl refl refl refl

pub percent_goes : GoesFrom percent 1 2 Percent
unfolding goes goes_from
percent_goes = by_stand (λ s. goes s percent ≡ goes_from (place_in_block s) 1 2 Percent) refl refl refl refl refl refl refl refl refl refl

pub dash_goes : GoesFrom dash 2 3 Dash
unfolding goes goes_from
dash_goes = by_stand (λ s. goes s dash ≡ goes_from (place_in_block s) 2 3 Dash) refl refl refl refl refl refl refl refl refl refl

pub ampersand_goes : GoesFrom ampersand 3 4 Ampersand
unfolding goes goes_from
ampersand_goes = by_stand (λ s. goes s ampersand ≡ goes_from (place_in_block s) 3 4 Ampersand) refl refl refl refl refl refl refl refl refl refl

pub asterisk_goes : GoesFrom asterisk 4 5 Asterisk
unfolding goes goes_from
asterisk_goes = by_stand (λ s. goes s asterisk ≡ goes_from (place_in_block s) 4 5 Asterisk) refl refl refl refl refl refl refl refl refl refl

pub greater_goes : GoesFrom greater 4 5 Stop
unfolding goes goes_from
greater_goes = by_stand (λ s. goes s greater ≡ goes_from (place_in_block s) 4 5 Stop) refl refl refl refl refl refl refl refl refl refl

pub dot_goes : GoesFrom dot 6 7 Stop
unfolding goes goes_from
dot_goes = by_stand (λ s. goes s dot ≡ goes_from (place_in_block s) 6 7 Stop) refl refl refl refl refl refl refl refl refl refl

pub plus_goes : GoesFrom plus 6 7 Stop
unfolding goes goes_from
plus_goes = by_stand (λ s. goes s plus ≡ goes_from (place_in_block s) 6 7 Stop) refl refl refl refl refl refl refl refl refl refl

pub semicolon_goes : GoesFrom semicolon 6 7 Between
unfolding goes goes_from
semicolon_goes = by_stand (λ s. goes s semicolon ≡ goes_from (place_in_block s) 6 7 Between) refl refl refl refl refl refl refl refl refl refl

pub less_goes : GoesFrom less 6 7 Last
unfolding goes goes_from
less_goes = by_stand (λ s. goes s less ≡ goes_from (place_in_block s) 6 7 Last) refl refl refl refl refl refl refl refl refl refl

-- a line whose letter is known goes where its letter does
pub goes_as : (x k first last : ℕ) (to : Stand) → GoesFrom k first last to → x ≡ k → (s : Stand) (p : ℕ) → p ≡ place_in_block s
    → (r : Option Stand) → r ≡ goes_from p first last to → (t : Stand) → r ≡ Some t → goes s x ≡ Some t
goes_as x k first last to g e s p q r f t h = rw e (g s ∙ ap (λ (m : ℕ). goes_from m first last to) (sym q) ∙ sym f ∙ h)

-- and one that is not here goes nowhere
pub goes_nowhere : {A : Type 0} (t : Stand) → None ≡ Some t → A
goes_nowhere t e = absurd (let z : ◌≡◌ {A = ℕ} 0 1 = cc in omega arith)

-- THE TESTS of a place
module _ (p first last : ℕ) (to : Stand) where
  pub before_first : p < first → None ≡ goes_from p first last to
  unfolding goes_from
  before_first h = rw (lt-ltb p first h)

  pub behind_last : first ≤ p → last < p → None ≡ goes_from p first last to
  unfolding goes_from
  behind_last g h = rw (le-ltb p first g, lt-ltb last p h)

  pub in_its_place : first ≤ p → p ≤ last → Some to ≡ goes_from p first last to
  unfolding goes_from
  in_its_place g h = rw (le-ltb p first g, le-ltb last p h)
