-- Laws of groups: the first group of a list and what is behind it. Assumes nothing.
use mathlib.Core.Path.{◌≡◌, refl, ap, sym}
use mathlib.Core.List.{List, [], ◌∷◌, ◌++◌}
use mathlib.Core.Bool.{Bool, true, false, cond, ◌||◌, false≢true}
use Prim.Native.Nat.{ℕ, ◌<◌}
use native.Mathlib.Omega.{arith}
use lib.ListN.{length, drop}
use Rattle.iff.specs.Lists.{front, groups, any}

module _ {A : Type 0} (h : A → Bool) where
  pub any_append : (xs ys : List A) → any h (xs ++ ys) ≡ (any h xs || any h ys)
  unfolding any
  any_append [] ys = refl
  any_append (x ∷ xs) ys = go (h x) (any_append xs ys)
    where
      go : (b : Bool) → any h (xs ++ ys) ≡ (any h xs || any h ys) → (b || any h (xs ++ ys)) ≡ ((b || any h xs) || any h ys)
      go true e = refl
      go false e = e

  -- entries that open nothing, before some that begin with an opener
  pub front_past : (qs rs : List A) → any h qs ≡ false → front h rs ≡ [] → front h (qs ++ rs) ≡ qs
  unfolding any front
  front_past [] rs e f = f
  front_past (q ∷ qs) rs e f = go (h q) e (front_past qs rs)
    where
      go : (b : Bool) → (b || any h qs) ≡ false → (any h qs ≡ false → front h rs ≡ [] → front h (qs ++ rs) ≡ qs)
          → cond b [] (q ∷ front h (qs ++ rs)) ≡ q ∷ qs
      go true e ih = absurd (false≢true (sym e))
      go false e ih = ap (λ (l : List A). q ∷ l) (ih e f)

  pub groups_past : (qs rs : List A) → any h qs ≡ false → groups h (qs ++ rs) ≡ groups h rs
  unfolding any groups
  groups_past [] rs e = refl
  groups_past (q ∷ qs) rs e = go (h q) e (groups_past qs rs)
    where
      go : (b : Bool) → (b || any h qs) ≡ false → (any h qs ≡ false → groups h (qs ++ rs) ≡ groups h rs)
          → cond b (record { top = q; rest = front h (qs ++ rs) } ∷ groups h (qs ++ rs)) (groups h (qs ++ rs)) ≡ groups h rs
      go true e ih = absurd (false≢true (sym e))
      go false e ih = ih e

  -- the first group, and those behind it
  pub groups_first : (x : A) (qs rs : List A) → h x ≡ true → any h qs ≡ false → front h rs ≡ []
      → groups h (x ∷ (qs ++ rs)) ≡ record { top = x; rest = qs } ∷ groups h rs
  unfolding groups
  groups_first x qs rs t e f = rw (t, front_past qs rs e f, groups_past qs rs e)

  -- nothing stands before the first opener
  pub front_open : (x : A) (xs : List A) → h x ≡ true → front h (x ∷ xs) ≡ []
  unfolding front
  front_open x xs e = rw e

  pub front_head : (x : A) (xs : List A) → front h (x ∷ xs) ≡ [] → h x ≡ true
  unfolding front
  front_head x xs e = go (h x) e
    where
      go : (b : Bool) → cond b [] (x ∷ front h xs) ≡ [] → b ≡ true
      go true e = refl
      go false e = absurd (let z : ◌≡◌ {A = ℕ} 0 1 = cc in omega arith)

  pub front_closed : (x : A) (xs : List A) → h x ≡ false → front h (x ∷ xs) ≡ x ∷ front h xs
  unfolding front
  front_closed x xs e = rw e

  pub front_nil : front h [] ≡ []
  unfolding front
  front_nil = refl

  -- what is behind the first entry of a list that has one, with one more at its end
  pub behind_first : (xs : List A) (y : A) → 0 < length xs → drop 1 (xs ++ (y ∷ [])) ≡ drop 1 xs ++ (y ∷ [])
  behind_first [] y l = absurd (omega arith)
  behind_first (x ∷ xs) y l = refl
