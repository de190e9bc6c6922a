-- A scan of lines without fault is a pass over their rows, in the states that belong to each other. Laws over plain lists. Assumes nothing.
use Rattle.std.specs.Prelude.{Ok}
use Prim.Native.Nat.{ℕ, suc, ◌+◌}
use mathlib.Core.Path.{◌≡◌, refl, ap}
use mathlib.Core.List.{List, [], ◌∷◌, ◌++◌, map}
use mathlib.Core.Bool.{Bool, true, false, cond}
use native.Mathlib.Omega.{arith}
use Rattle.iff.specs.Lists.{Group, front, groups, members, all, all_of, any, total}
use Rattle.iff.specs.Refusals.{scan, Verdict}
use Rattle.iff_laws.specs.ScanLaws.{or_fine}
use Rattle.iff_laws.specs.TruthLaws.{and_both}
use Rattle.iff_desk.specs.Sound.{passes}
use Rattle.tables.proofs.Each.{Each}

module _ {S A : Type 0} (test : S → ℕ → A → Verdict) (next : S → A → S) (P : A → Type 0) where
  -- entries, each with what it leaves at its number; `view` is the state in which that is looked at
  module _ {T B : Type 0} (ok : T → B → Bool) (move : T → B → T) (view : S → ℕ → T) (leaves : ℕ → A → B) (all-leave : ℕ → List A → List B) where
    pub record Pairs : Type 0 where
      pub none : (i : ℕ) → all-leave i [] ≡ []
      pub one_more : (i : ℕ) (x : A) (xs : List A) → all-leave i (x ∷ xs) ≡ leaves i x ∷ all-leave (suc i) xs
      pub is_ok : (st : S) (i : ℕ) (x : A) → P x → test st i x ≡ Ok tt → ok (view st i) (leaves i x) ≡ true
      pub moves : (st : S) (i : ℕ) (x : A) → view (next st x) (suc i) ≡ move (view st i) (leaves i x)

    pub scan_passes : Pairs → (st : S) (i : ℕ) (xs : List A) → Each P xs → scan test next st i xs ≡ Ok tt
        → passes ok move (view st i) (all-leave i xs) ≡ true
    unfolding scan passes
    scan_passes p st i [] u e = rw (p.none i)
    scan_passes p st i (x ∷ xs) u e =
        let z = or_fine (test st i x) _ e in
        rw (p.one_more i x xs)
        (and_both (p.is_ok st i x u.0 z.0)
        (rw (← (p.moves st i x)) (scan_passes p (next st x) (suc i) xs u.1 z.1)))

  -- what each entry of a scan without fault has
  module _ (Q : A → Type 0) (h : (st : S) (i : ℕ) (x : A) → P x → test st i x ≡ Ok tt → Q x) where
    pub scan_each : (st : S) (i : ℕ) (xs : List A) → Each P xs → scan test next st i xs ≡ Ok tt → Each Q xs
    unfolding scan
    scan_each st i [] u e = tt
    scan_each st i (x ∷ xs) u e =
        let z = or_fine (test st i x) _ e in
        (h st i x u.0 z.0, scan_each (next st x) (suc i) xs u.1 z.1)

-- EACH
module _ {A B : Type 0} where
  pub each_all : (p : B → Bool) (to : A → B) (xs : List A) → Each (λ x. p (to x) ≡ true) xs → all p (map to xs) ≡ true
  unfolding all
  each_all p to [] u = refl
  each_all p to (x ∷ xs) u = and_both u.0 (each_all p to xs u.1)

-- A TOTAL of two lists
pub total_append : {A : Type 0} (size : A → ℕ) (xs ys : List A) → total size (xs ++ ys) ≡ total size xs + total size ys
unfolding total
total_append size [] ys = omega arith
total_append size (x ∷ xs) ys = omega (arith, total_append size xs ys)

-- a list of tests all of which hold
abbrev pub Holds : List Bool → Type 0
Holds bs = Each (λ b. b ≡ true) bs

pub all_hold : (bs : List Bool) → Holds bs → all_of bs ≡ true
unfolding all_of
all_hold [] u = refl
all_hold (b ∷ bs) u = and_both u.0 (all_hold bs u.1)

-- GROUPS
module _ {A : Type 0} (h : A → Bool) where
  -- what all have, those before the first opener have, and those of each group
  module _ (P : A → Type 0) where
    pub each_front : (xs : List A) → Each P xs → Each P (front h xs)
    unfolding front
    each_front [] u = tt
    each_front (x ∷ xs) u = go (h x) (each_front xs u.1)
      where
        go : (b : Bool) → Each P (front h xs) → Each P (cond b [] (x ∷ front h xs))
        go true v = tt
        go false v = (u.0, v)

    abbrev pub OfGroup : Group A → Type 0
    OfGroup g = Each P (members g)

    pub each_group : (xs : List A) → Each P xs → Each OfGroup (groups h xs)
    unfolding groups
    each_group [] u = tt
    each_group (x ∷ xs) u = go (h x) (each_group xs u.1)
      where
        go : (b : Bool) → Each OfGroup (groups h xs) → Each OfGroup (cond b (record { top = x; rest = front h xs } ∷ groups h xs) (groups h xs))
        go true v = ((u.0, each_front xs u.1), v)
        go false v = v

    -- and the other way round
    pub each_entry : (xs : List A) → Each P (front h xs) → Each OfGroup (groups h xs) → Each P xs
    unfolding front groups
    each_entry [] u v = tt
    each_entry (x ∷ xs) u v = go (h x) u v (each_entry xs)
      where
        go : (b : Bool) → Each P (cond b [] (x ∷ front h xs)) → Each OfGroup (cond b (record { top = x; rest = front h xs } ∷ groups h xs) (groups h xs))
            → (Each P (front h xs) → Each OfGroup (groups h xs) → Each P xs) → P x × Each P xs
        go true u v ih = (v.0.0, ih v.0.1 v.1)
        go false u v ih = (u.0, ih u.1 v)

  -- a group begins with an opener and has no other
  abbrev pub Opens : Group A → Type 0
  Opens g = (h g.top ≡ true) × (any h g.rest ≡ false)

  pub none_in_front : (xs : List A) → any h (front h xs) ≡ false
  unfolding any front
  none_in_front [] = refl
  none_in_front (x ∷ xs) = go (h x) refl (none_in_front xs)
    where
      go : (b : Bool) → h x ≡ b → any h (front h xs) ≡ false → any h (cond b [] (x ∷ front h xs)) ≡ false
      go true q e = refl
      go false q e = rw (q, e)

  pub groups_open : (xs : List A) → Each Opens (groups h xs)
  unfolding groups
  groups_open [] = tt
  groups_open (x ∷ xs) = go (h x) refl (groups_open xs)
    where
      go : (b : Bool) → h x ≡ b → Each Opens (groups h xs) → Each Opens (cond b (record { top = x; rest = front h xs } ∷ groups h xs) (groups h xs))
      go true q v = ((q, none_in_front xs), v)
      go false q v = v

  -- under a map that leaves openers openers, and no others
  module _ {B : Type 0} (k : B → Bool) (to : A → B) (same : (x : A) → k (to x) ≡ h x) where
    pub front_map : (xs : List A) → front k (map to xs) ≡ map to (front h xs)
    unfolding front
    front_map [] = refl
    front_map (x ∷ xs) = rw (same x) (go (h x) (front_map xs))
      where
        go : (b : Bool) → front k (map to xs) ≡ map to (front h xs) → cond b [] (to x ∷ front k (map to xs)) ≡ map to (cond b [] (x ∷ front h xs))
        go true e = refl
        go false e = ap (λ (l : List B). to x ∷ l) e

    abbrev pub group_to : Group A → Group B
    group_to g = record { top = to g.top; rest = map to g.rest }

    pub groups_map : (xs : List A) → groups k (map to xs) ≡ map group_to (groups h xs)
    unfolding groups
    groups_map [] = refl
    groups_map (x ∷ xs) = rw (same x) (go (h x) (groups_map xs))
      where
        go : (b : Bool) → groups k (map to xs) ≡ map group_to (groups h xs)
            → cond b (record { top = to x; rest = front k (map to xs) } ∷ groups k (map to xs)) (groups k (map to xs))
            ≡ map group_to (cond b (record { top = x; rest = front h xs } ∷ groups h xs) (groups h xs))
        go true e = rw (e, front_map xs)
        go false e = e
