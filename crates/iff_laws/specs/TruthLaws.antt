-- WHAT A TEST SAYS: a Bool that is true exactly when a proposition holds, and how such tests are put together.
use Prim.Native.Nat.{ℕ, zero, suc, ◌+◌, ◌≤◌, ◌<◌}
use Rattle.std.specs.Prelude.{◌≡◌, ◌↔◌, Bool, ◌&&◌, ◌||◌, not, cond, length, get_or, eqb, ltb, leb}
use Rattle.std.proofs.Math.Path.{refl}
use Rattle.std.proofs.Common.{ap, ap₂, sym, ◌∙◌, arith, eqb-true, eq-eqb, ltb-true, lt-ltb, leb-true, le-leb}
use mathlib.Core.List.{List, [], ◌∷◌, map}
use Rattle.std.proofs.Math.Bool.{true, false}
use Rattle.std.proofs.lemmas.Bool.{false≢true}
use Rattle.iff.specs.Lists.{any, all, kept, all2, same}
use Rattle.iff_rules.specs.Legs.{one}

abbrev pub Says : Bool → Type 0 → Type 0
Says b P = (b ≡ true) ↔ P

-- numbers
pub says_eq : (a b : ℕ) → Says (eqb a b) (a ≡ b)
says_eq a b = (eqb-true a b, eq-eqb a b)

pub says_le : (a b : ℕ) → Says (leb a b) (a ≤ b)
says_le a b = (leb-true a b, le-leb a b)

pub says_lt : (a b : ℕ) → Says (ltb a b) (a < b)
says_lt a b = (ltb-true a b, lt-ltb a b)

-- the test itself, nothing asked, and what cannot be
pub says_itself : {b : Bool} → Says b (b ≡ true)
says_itself = (λ e. e, λ e. e)

pub says_true : Says true (Unit {0})
says_true = (λ e. tt, λ u. refl)

pub says_false : Says false ⊥
says_false = (λ e. false≢true e, λ z. absurd z)

-- two facts in one
pub both : (a b : Bool) → (a && b) ≡ true → (a ≡ true) × (b ≡ true)
both true b e = (refl, e)
both false b e = absurd (false≢true e)

pub and_both : {a b : Bool} → a ≡ true → b ≡ true → (a && b) ≡ true
and_both p q = rw (p, q)

pub says_and : {a b : Bool} {P Q : Type 0} → Says a P → Says b Q → Says (a && b) (P × Q)
says_and {a} {b} p q = (λ e. let z = both a b e in (p.0 z.0, q.0 z.1), λ w. and_both (p.1 w.0) (q.1 w.1))

-- not
pub says_not : {a : Bool} {P : Type 0} → Says a P → Says (not a) (P → ⊥)
says_not {a = true} p = (λ e. absurd (false≢true e), λ n. absurd (n (p.0 refl)))
says_not {a = false} p = (λ e w. false≢true (p.1 w), λ n. refl)

-- the second, unless the first
pub says_unless : {a b : Bool} {P Q : Type 0} → Says a P → Says b Q → Says (a || b) ((P → ⊥) → Q)
says_unless {a = true} p q = (λ e n. absurd (n (p.0 refl)), λ f. refl)
says_unless {a = false} p q = (λ e n. q.0 e, λ f. q.1 (f (λ w. false≢true (p.1 w))))

-- where q holds the one, elsewhere the other
pub says_cond : {q a b : Bool} {Q A B : Type 0} → Says q Q → Says a A → Says b B → Says (cond q a b) ((Q → A) × ((Q → ⊥) → B))
says_cond {q = true} q a b = (λ e. (λ w. a.0 e, λ n. absurd (n (q.0 refl))), λ z. a.1 (z.0 (q.0 refl)))
says_cond {q = false} q a b = (λ e. (λ w. absurd (false≢true (q.1 w)), λ n. b.0 e), λ z. b.1 (z.1 (λ w. false≢true (q.1 w))))

-- where q holds, elsewhere nothing
pub says_where : {q a : Bool} {Q A : Type 0} → Says q Q → Says a A → Says (cond q a true) (Q → A)
says_where {q = true} q a = (λ e w. a.0 e, λ f. a.1 (f (q.0 refl)))
says_where {q = false} q a = (λ e w. absurd (false≢true (q.1 w)), λ f. refl)

-- the same proposition in other words
pub says_as : {a : Bool} {P Q : Type 0} → Says a P → (P → Q) → (Q → P) → Says a Q
says_as p f g = (λ e. f (p.0 e), λ q. p.1 (g q))

-- the same test in other words
pub says_by : {a b : Bool} {P : Type 0} → a ≡ b → Says b P → Says a P
says_by e p = (λ t. p.0 (sym e ∙ t), λ q. e ∙ p.1 q)

-- LISTS: an entry by its number; d is the entry beyond the end
module _ {A : Type 0} (d : A) (p : A → Bool) where
  pub record Some (xs : List A) : Type 0 where
    pub which : ℕ
    pub inside : which < length xs
    pub has_it : p (get_or xs which d) ≡ true

  later_some : {x : A} {xs : List A} → Some xs → Some (x ∷ xs)
  later_some s = record { which = suc s.which; inside = omega (arith, s.inside); has_it = s.has_it }

  any_some : (xs : List A) → any p xs ≡ true → Some xs
  unfolding any
  any_some [] e = absurd (false≢true e)
  any_some (x ∷ xs) e = go (p x) refl e (any_some xs)
    where
      go : (b : Bool) → p x ≡ b → (b || any p xs) ≡ true → (any p xs ≡ true → Some xs) → Some (x ∷ xs)
      go true q e later = record { which = 0; inside = omega arith; has_it = q }
      go false q e later = later_some (later e)

  some_any : (xs : List A) (i : ℕ) → i < length xs → p (get_or xs i d) ≡ true → any p xs ≡ true
  unfolding any
  some_any [] i h e = absurd (omega arith)
  some_any (x ∷ xs) zero h e = rw e
  some_any (x ∷ xs) (suc i) h e = or_second (p x) (some_any xs i (omega arith) e)
    where
      or_second : (a : Bool) {b : Bool} → b ≡ true → (a || b) ≡ true
      or_second true e = refl
      or_second false e = e

  pub says_any : (xs : List A) → Says (any p xs) (Some xs)
  says_any xs = (any_some xs, λ s. some_any xs s.which s.inside s.has_it)

  -- none has it
  pub says_none : (xs : List A) → Says (not (any p xs)) ((i : ℕ) → i < length xs → p (get_or xs i d) ≡ true → ⊥)
  says_none xs =
      says_as (says_not (says_any xs)) (λ n i h e. n (record { which = i; inside = h; has_it = e }))
      (λ m s. m s.which s.inside s.has_it)

  pub none_with : {P : A → Type 0} → ((x : A) → Says (p x) (P x)) → (xs : List A)
      → Says (not (any p xs)) ((i : ℕ) → i < length xs → P (get_or xs i d) → ⊥)
  none_with q xs = says_as (says_none xs) (λ n i h w. n i h ((q _).1 w)) (λ m i h e. m i h ((q _).0 e))

  -- all have it
  all_each : (xs : List A) → all p xs ≡ true → (i : ℕ) → i < length xs → p (get_or xs i d) ≡ true
  unfolding all
  all_each [] e i h = absurd (omega arith)
  all_each (x ∷ xs) e zero h = (both (p x) (all p xs) e).0
  all_each (x ∷ xs) e (suc i) h = all_each xs (both (p x) (all p xs) e).1 i (omega arith)

  each_all : (xs : List A) → ((i : ℕ) → i < length xs → p (get_or xs i d) ≡ true) → all p xs ≡ true
  unfolding all
  each_all [] m = refl
  each_all (x ∷ xs) m = and_both (m 0 (omega arith)) (each_all xs (λ i h. m (suc i) (omega arith)))

  pub says_all : (xs : List A) → Says (all p xs) ((i : ℕ) → i < length xs → p (get_or xs i d) ≡ true)
  says_all xs = (all_each xs, each_all xs)

  pub all_with : {P : A → Type 0} → ((x : A) → Says (p x) (P x)) → (xs : List A)
      → Says (all p xs) ((i : ℕ) → i < length xs → P (get_or xs i d))
  all_with q xs = says_as (says_all xs) (λ m i h. (q _).0 (m i h)) (λ m i h. (q _).1 (m i h))

-- some entry of those kept, under a map
one_kept : {A B : Type 0} (p : B → Bool) (w : A → B) (b : Bool) (x : A) (xs : List A)
    → any p (map w (cond b (x ∷ xs) xs)) ≡ ((b && p (w x)) || any p (map w xs))
unfolding any
one_kept p w true x xs = refl
one_kept p w false x xs = refl

pub any_kept : {A B : Type 0} (p : B → Bool) (w : A → B) (q : A → Bool) (xs : List A)
    → any p (map w (kept q xs)) ≡ any (λ x. q x && p (w x)) xs
unfolding any kept
any_kept p w q [] = refl
any_kept p w q (x ∷ xs) = one_kept p w (q x) x (kept q xs) ∙ ap (λ (b : Bool). (q x && p (w x)) || b) (any_kept p w q xs)

pub any_map : {A B : Type 0} (p : B → Bool) (g : A → B) (xs : List A) → any p (map g xs) ≡ any (λ x. p (g x)) xs
unfolding any
any_map p g [] = refl
any_map p g (x ∷ xs) = ap (λ (b : Bool). p (g x) || b) (any_map p g xs)

-- one more, where a test says so
pub one_more : {A : Type 0} (b : Bool) (x : A) (xs : List A) → length (cond b (x ∷ xs) xs) ≡ one b + length xs
one_more true x xs = omega arith
one_more false x xs = omega arith

-- the same bytes
pub same_equal : (s t : List ℕ) → same s t ≡ true → s ≡ t
unfolding all2
same_equal [] [] e = refl
same_equal [] (b ∷ t) e = absurd (false≢true e)
same_equal (a ∷ s) [] e = absurd (false≢true e)
same_equal (a ∷ s) (b ∷ t) e =
    let z = both (eqb a b) (same s t) e in
    ap₂ (λ (x : ℕ) (y : List ℕ). x ∷ y) (eqb-true a b z.0) (same_equal s t z.1)

pub same_self : (s : List ℕ) → same s s ≡ true
unfolding all2
same_self [] = refl
same_self (a ∷ s) = and_both (eq-eqb a a refl) (same_self s)

pub says_same : (s t : List ℕ) → Says (same s t) (s ≡ t)
says_same s t = (same_equal s t, λ e. ap (same s) (sym e) ∙ same_self s)
