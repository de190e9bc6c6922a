-- A key is among a table's keys exactly when a row is keyed by it. A law of the definitions alone. Assumes nothing.
use Prim.Native.Nat.{ℕ}
use mathlib.Core.Path.{◌≡◌, refl, sym}
use mathlib.Core.List.{List, [], ◌∷◌, map}
use mathlib.Core.Bool.{Bool, true, false, ◌&&◌, ◌||◌, cond}
use lib.Dec.{eqb}
use borrow.Author.Tests.{eq-eqb, ne_eqb, eqb-true, eqb-false}
use Rattle.iff.specs.Lists.{any, kept, has}
use Rattle.iff.specs.Tables.{Row, word, tag, key_tag, key_word, keys_of, keyed}
use Rattle.iff.specs.declared.File.{File}

eqb_sym : (a b : ℕ) → eqb a b ≡ eqb b a
eqb_sym a b = go (eqb b a) refl
  where
    go : (c : Bool) → eqb b a ≡ c → eqb a b ≡ c
    go true e = eq-eqb a b (sym (eqb-true b a e))
    go false e = ne_eqb a b (λ q. eqb-false b a e (sym q))

module _ (f : File) (k : ℕ) where
  abbrev key_row : Row → Bool
  key_row r = eqb (tag r) (key_tag f)

  abbrev key_in : List Row → List ℕ
  key_in rs = map (λ (r : Row). word r (key_word f)) rs

  pub has_keys : (rs : List Row) → has k (keys_of f rs) ≡ any (keyed (key_tag f) (key_word f) k) rs
  unfolding any kept
  has_keys [] = refl
  has_keys (r ∷ rs) = go (key_row r) (has_keys rs)
    where
      go : (b : Bool) → has k (keys_of f rs) ≡ any (keyed (key_tag f) (key_word f) k) rs
          → has k (key_in (cond b (r ∷ kept key_row rs) (kept key_row rs)))
          ≡ ((b && eqb (word r (key_word f)) k) || any (keyed (key_tag f) (key_word f) k) rs)
      go true e = rw (e, eqb_sym k)
      go false e = e
