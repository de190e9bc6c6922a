-- Groups over any type: a list taken apart and put together, one group in the place of another, and the first entry that passes. A proper group
-- is one that `Opens`; entries among which there is no opener have `any h fs ≡ false`. Assumes nothing.
use Prim.Native.Nat.{ℕ, zero, suc, ◌<◌}
use mathlib.Core.Path.{◌≡◌, refl, ap, sym, ◌∙◌}
use mathlib.Core.List.{List, [], ◌∷◌, ◌++◌, map, map-id, append_assoc}
use mathlib.Core.Bool.{Bool, true, false, ◌||◌, cond, false≢true}
use native.Mathlib.Omega.{arith}
use lib.ListN.{length, get_or, take, drop, set, take-append-drop}
use lib.Seq.{set_split}
use Rattle.iff.specs.Lists.{Group, front, groups, members, flat, all, any, kept, position}
use Rattle.iff_laws.specs.TruthLaws.{both}
use Rattle.tables.proofs.Each.{Each, each_append}
use Rattle.block_ends.proofs.GroupLaws.{front_past, groups_past, groups_first, front_open}
use Rattle.sound_laws.proofs.PassLaws.{each_all, Opens}

-- EACH, of a part of a list
module _ {A : Type 0} (P : A → Type 0) where
  pub each_take : (k : ℕ) (xs : List A) → Each P xs → Each P (take k xs)
  each_take zero xs u = tt
  each_take (suc k) [] u = tt
  each_take (suc k) (x ∷ xs) u = (u.0, each_take k xs u.1)

  pub each_drop : (k : ℕ) (xs : List A) → Each P xs → Each P (drop k xs)
  each_drop zero xs u = u
  each_drop (suc k) [] u = tt
  each_drop (suc k) (x ∷ xs) u = each_drop k xs u.1

  pub each_left : (xs ys : List A) → Each P (xs ++ ys) → Each P xs
  each_left [] ys u = tt
  each_left (x ∷ xs) ys u = (u.0, each_left xs ys u.1)

  pub each_right : (xs ys : List A) → Each P (xs ++ ys) → Each P ys
  each_right [] ys u = u
  each_right (x ∷ xs) ys u = each_right xs ys u.1

-- a test of all
module _ {A : Type 0} (p : A → Bool) where
  abbrev pub Passes : A → Type 0
  Passes x = p x ≡ true

  pub each_of_all : (xs : List A) → all p xs ≡ true → Each Passes xs
  unfolding all
  each_of_all [] e = tt
  each_of_all (x ∷ xs) e = let b = both (p x) (all p xs) e in (b.0, each_of_all xs b.1)

  pub all_of_each : (xs : List A) → Each Passes xs → all p xs ≡ true
  all_of_each xs u = rw map-id at (each_all p (λ x. x) xs u)

-- GROUPS ONE AFTER THE OTHER
module _ {A : Type 0} where
  pub flat_append : (fs gs : List (Group A)) → flat (fs ++ gs) ≡ flat fs ++ flat gs
  unfolding flat
  flat_append [] gs = refl
  flat_append (f ∷ fs) gs = rw (flat_append fs gs, append_assoc)

  -- the first, and the others
  pub flat_cons : (g : Group A) (gs : List (Group A)) → flat (g ∷ gs) ≡ members g ++ flat gs
  unfolding flat
  flat_cons g gs = refl

  pub flat_parts : (k : ℕ) (gs : List (Group A)) → flat gs ≡ flat (take k gs) ++ flat (drop k gs)
  flat_parts k gs = ap flat (sym (take-append-drop k gs)) ∙ flat_append (take k gs) (drop k gs)

  -- one in the place of that at k
  abbrev pub replaced : ℕ → Group A → List (Group A) → List (Group A)
  replaced k g gs = take k gs ++ (g ∷ drop (suc k) gs)

  pub flat_replaced : (k : ℕ) (g : Group A) (gs : List (Group A))
      → flat (take k gs) ++ (members g ++ flat (drop (suc k) gs)) ≡ flat (replaced k g gs)
  flat_replaced k g gs = ap (λ (l : List A). flat (take k gs) ++ l) (sym (flat_cons g (drop (suc k) gs))) ∙ sym (flat_append (take k gs) (g ∷ drop (suc k) gs))

  -- where there is one at k
  pub replaced_set : (k : ℕ) (g : Group A) (gs : List (Group A)) → k < length gs → replaced k g gs ≡ set gs k g
  replaced_set k g gs h = sym (set_split gs k g h)

  -- what all their entries have
  pub each_flat : (P : A → Type 0) (gs : List (Group A)) → Each (λ g. Each P (members g)) gs → Each P (flat gs)
  unfolding flat
  each_flat P [] u = tt
  each_flat P (g ∷ gs) u = (u.0.0, each_append P g.rest (flat gs) u.0.1 (each_flat P gs u.1))

-- A LIST AND ITS GROUPS
module _ {A : Type 0} (h : A → Bool) where
  pub regrouped : (xs : List A) → xs ≡ front h xs ++ flat (groups h xs)
  unfolding front groups flat
  regrouped [] = refl
  regrouped (x ∷ xs) = go (h x) (regrouped xs)
    where
      go : (b : Bool) → xs ≡ front h xs ++ flat (groups h xs)
          → x ∷ xs ≡ cond b [] (x ∷ front h xs) ++ flat (cond b (record { top = x; rest = front h xs } ∷ groups h xs) (groups h xs))
      go true e = ap (λ (l : List A). x ∷ l) e
      go false e = ap (λ (l : List A). x ∷ l) e

  -- the openers are the groups' first entries
  pub openers_kept : (xs : List A) → kept h xs ≡ map (λ g. g.top) (groups h xs)
  unfolding kept groups
  openers_kept [] = refl
  openers_kept (x ∷ xs) = go (h x) (openers_kept xs)
    where
      go : (b : Bool) → kept h xs ≡ map (λ g. g.top) (groups h xs)
          → cond b (x ∷ kept h xs) (kept h xs) ≡ map (λ g. g.top) (cond b (record { top = x; rest = front h xs } ∷ groups h xs) (groups h xs))
      go true e = ap (λ (l : List A). x ∷ l) e
      go false e = e

  -- entries that open nothing stand before the first opener, with what stands there behind them
  pub front_behind : (fs xs : List A) → any h fs ≡ false → front h (fs ++ xs) ≡ fs ++ front h xs
  unfolding any front
  front_behind [] xs e = refl
  front_behind (f ∷ fs) xs e = go (h f) e (front_behind fs xs)
    where
      go : (b : Bool) → (b || any h fs) ≡ false → (any h fs ≡ false → front h (fs ++ xs) ≡ fs ++ front h xs)
          → cond b [] (f ∷ front h (fs ++ xs)) ≡ f ∷ (fs ++ front h xs)
      go true e ih = absurd (false≢true (sym e))
      go false e ih = ap (λ (l : List A). f ∷ l) (ih e)

  -- proper groups are the groups of their entries
  pub front_flat : (gs : List (Group A)) → Each (Opens h) gs → front h (flat gs) ≡ []
  unfolding front flat
  front_flat [] u = refl
  front_flat (g ∷ gs) u = front_open h g.top (g.rest ++ flat gs) u.0.0

  pub groups_flat : (gs : List (Group A)) → Each (Opens h) gs → groups h (flat gs) ≡ gs
  unfolding groups flat
  groups_flat [] u = refl
  groups_flat (g ∷ gs) u =
      groups_first h g.top g.rest (flat gs) u.0.0 u.0.1 (front_flat gs u.1)
      ∙ ap (λ (l : List (Group A)). g ∷ l) (groups_flat gs u.1)

  -- and behind some entries that open nothing
  module _ (fs : List A) (gs : List (Group A)) (e : any h fs ≡ false) (u : Each (Opens h) gs) where
    pub front_of : front h (fs ++ flat gs) ≡ fs
    front_of = front_past h fs (flat gs) e (front_flat gs u)

    pub groups_of : groups h (fs ++ flat gs) ≡ gs
    groups_of = groups_past h fs (flat gs) e ∙ groups_flat gs u

  -- ONE GROUP IN THE PLACE OF ANOTHER
  module _ (fs : List A) (k : ℕ) (g : Group A) (gs : List (Group A)) (e : any h fs ≡ false) (p : Opens h g) (u : Each (Opens h) gs) where
    pub replaced_open : Each (Opens h) (replaced k g gs)
    replaced_open =
        each_append (Opens h) (take k gs) (g ∷ drop (suc k) gs) (each_take (Opens h) k gs u) (p, each_drop (Opens h) (suc k) gs u)

    pub groups_replaced : groups h (fs ++ (flat (take k gs) ++ (members g ++ flat (drop (suc k) gs)))) ≡ replaced k g gs
    groups_replaced = ap (λ (l : List A). groups h (fs ++ l)) (flat_replaced k g gs) ∙ groups_of fs (replaced k g gs) e replaced_open

    pub front_replaced : front h (fs ++ (flat (take k gs) ++ (members g ++ flat (drop (suc k) gs)))) ≡ fs
    front_replaced = ap (λ (l : List A). front h (fs ++ l)) (flat_replaced k g gs) ∙ front_of fs (replaced k g gs) e replaced_open

-- THE FIRST THAT PASSES
module _ {A : Type 0} (p : A → Bool) where
  pub position_inside : (xs : List A) → any p xs ≡ true → position p xs < length xs
  unfolding any position
  position_inside [] e = absurd (false≢true e)
  position_inside (x ∷ xs) e = go (p x) e (position_inside xs)
    where
      go : (b : Bool) → (b || any p xs) ≡ true → (any p xs ≡ true → position p xs < length xs) → cond b 0 (suc (position p xs)) < suc (length xs)
      go true e ih = omega arith
      go false e ih = omega (arith, ih e)

  pub position_passes : (d : A) (xs : List A) → any p xs ≡ true → p (get_or xs (position p xs) d) ≡ true
  unfolding any position
  position_passes d [] e = absurd (false≢true e)
  position_passes d (x ∷ xs) e = go (p x) refl e (position_passes d xs)
    where
      go : (b : Bool) → p x ≡ b → (b || any p xs) ≡ true → (any p xs ≡ true → p (get_or xs (position p xs) d) ≡ true)
          → p (get_or (x ∷ xs) (cond b 0 (suc (position p xs))) d) ≡ true
      go true q e ih = q
      go false q e ih = ih e
