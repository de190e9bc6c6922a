-- The services of a table gone through block by block. Assumes nothing.
use Rattle.std.specs.Prelude.{Some}
use Prim.Native.Nat.{ℕ, zero, suc, ◌+◌, ◌-◌, ◌*◌, ◌≤◌, ◌<◌}
use mathlib.Core.Path.{◌≡◌, refl, ap, sym, subst, ◌∙◌}
use mathlib.Core.List.{List, [], ◌∷◌, map}
use mathlib.Core.Bool.{Bool, true, false, cond}
use native.Mathlib.Omega.{arith}
use native.Mathlib.Numerals.{add-one}
use lib.ListN.{length, get_or, drop, length-drop}
use lib.Seq.{drop-cons}
use Rattle.iff.specs.declared.File.TheVariants.{Timetbls}
use Rattle.iff.specs.Lists.{kept, front, groups}
use Rattle.iff.specs.Tables.{Row, word, row_width, row_at, key_word, is_hash_row, keys_of}
use Rattle.keys.specs.Blocks.{block_of_rows}
use Rattle.keys.specs.Lookup.{keys_among}
use Rattle.keys.proofs.Among.{keys_there}
use Rattle.keys.proofs.Blocks.{between_first}
use Rattle.walks.specs.Heads.{NextHead}
use Rattle.key_sets.specs.Sets.{AllFree, Held}
use Rattle.key_classes.specs.Classes.{KeyTried, ClassAsked, services_from, Walking}
use Rattle.key_sets.specs.declared.Tried.{Tried}
use Rattle.key_sets.specs.declared.Tried.TheVariants.{Goes}
use Rattle.key_classes.proofs.ClassLaws.{none_held, none_asked, held_came, key_held, key_clear, asked_all, asked_again}

-- the services are those that open the blocks
services_open : (rs : List Row) → keys_of Timetbls rs ≡ map (λ g. word g.top (key_word Timetbls)) (groups is_hash_row rs)
unfolding kept groups
services_open [] = refl
services_open (r ∷ rs) = go (is_hash_row r) (services_open rs)
  where
    go : (b : Bool) → keys_of Timetbls rs ≡ map (λ g. word g.top (key_word Timetbls)) (groups is_hash_row rs)
        → map (λ r. word r (key_word Timetbls)) (cond b (r ∷ kept is_hash_row rs) (kept is_hash_row rs))
        ≡ map (λ g. word g.top (key_word Timetbls)) (cond b (record { top = r; rest = front is_hash_row rs } ∷ groups is_hash_row rs) (groups is_hash_row rs))
    go true e = ap (λ (l : List ℕ). word r (key_word Timetbls) ∷ l) e
    go false e = e

-- no more of them than rows
few_services : (t : List ℕ) (i k : ℕ) → length (keys_of Timetbls (block_of_rows (row_width Timetbls) t i k)) ≤ k
unfolding kept block_of_rows
few_services t i zero = omega arith
few_services t i (suc k) = go (is_hash_row (row_at (row_width Timetbls) t i)) (few_services t (suc i) k)
  where
    rest : List Row
    rest = kept is_hash_row (block_of_rows (row_width Timetbls) t (suc i) k)

    go : (b : Bool) → length (map (λ r. word r (key_word Timetbls)) rest) ≤ k
        → length (map (λ r. word r (key_word Timetbls)) (cond b (row_at (row_width Timetbls) t i ∷ rest) rest)) ≤ suc k
    go true h = omega arith
    go false h = omega arith

module _ (used : ℕ) (t : List ℕ) (room : used * row_width Timetbls ≤ length t) where
  pub no_more : length (keys_among Timetbls used t) ≤ used
  no_more = omega (arith, ap length (keys_there Timetbls t used room), few_services t 0 (used - 0))

  -- a row that begins a block is the next service
  module _ (i : ℕ) (h : i < used) (e : is_hash_row (row_at (row_width Timetbls) t i) ≡ true) where
    pub next_service : services_from t used i ≡ word (row_at (row_width Timetbls) t i) (key_word Timetbls) ∷ services_from t used (suc i)
    unfolding kept
    next_service = ap (keys_of Timetbls) (between_first (row_width Timetbls) t i used h) ∙ rw e

  -- rows that begin none are gone over
  pub same_services : (from r : ℕ) → NextHead (row_width Timetbls) t from used r → services_from t used from ≡ services_from t used r
  same_services from r x =
      services_open _ ∙ (ap (map (λ g. word g.top (key_word Timetbls))) x.behind ∙ sym (services_open _))

  pub none_left : (i : ℕ) → used ≤ i → services_from t used i ≡ []
  unfolding kept block_of_rows
  none_left i h =
      let z : used - i ≡ 0 = omega arith in
      rw z

-- what is left of a list is its end
module _ (ks : List ℕ) (n : ℕ) (k : ℕ) (rest : List ℕ) (e : drop n ks ≡ k ∷ rest) where
  there : n < length ks
  there = omega (arith, length-drop n ks, ap length e)

  there_is : get_or ks n 0 ≡ k
  there_is = cc (drop-cons ks n 0 there)

  behind : drop (suc n) ks ≡ rest
  behind = cc (drop-cons ks n 0 there)

all_gone : (ks : List ℕ) (n : ℕ) → drop n ks ≡ [] → length ks ≤ n
all_gone ks n e = omega (arith, length-drop n ks, ap length e)

-- THE WALK
module _ (classes class used upto : ℕ) (t : List ℕ) (room : used * row_width Timetbls ≤ length t) where
  pub starts : (ps : List ℕ) (r : ℕ) → AllFree ps → NextHead (row_width Timetbls) t 0 used r → Walking classes class used upto t (length ps) 0 r ps
  starts ps r f x =
      record {
        few = omega arith;
        high = x.high;
        head = x.head;
        left = keys_there Timetbls t used room ∙ same_services used t room 0 r x;
        clear = none_asked classes class (keys_among Timetbls used t);
        holds = none_held classes class (keys_among Timetbls used t) ps f;
      }

  module _ (slots n i : ℕ) (ps : List ℕ) (x : Walking classes class used upto t slots n i ps) where
    -- after the last row
    pub ends : used ≤ i → ClassAsked classes class (keys_among Timetbls used t) upto (Some upto)
    ends h =
        let g = all_gone (keys_among Timetbls used t) n (x.left ∙ none_left used t room i h) in
        asked_all classes class (keys_among Timetbls used t) upto n x.clear (λ j a b. omega arith)

    -- or after as many services as are left to be asked
    pub enough : n ≡ upto → ClassAsked classes class (keys_among Timetbls used t) upto (Some upto)
    enough e = asked_all classes class (keys_among Timetbls used t) upto n x.clear (λ j a b. omega arith)

    module _ (h : i < used) (ne : n ≡ upto → ⊥) (key : ℕ) (is : key ≡ word (row_at (row_width Timetbls) t i) (key_word Timetbls)) where
      here : drop n (keys_among Timetbls used t) ≡ key ∷ services_from t used (suc i)
      here = x.left ∙ (next_service used t room i h (x.head h) ∙ rw is)

      -- a service that came before
      pub came : Held ps key → ClassAsked classes class (keys_among Timetbls used t) upto (Some n)
      came c =
          let ks = keys_among Timetbls used t in
          let e = there_is ks n key (services_from t used (suc i)) here in
          asked_again classes class ks upto n (omega (arith, x.few)) (there ks n key (services_from t used (suc i)) here) x.clear
          (rw e (held_came classes class ks n slots ps x.holds key e c))

      -- one that did not
      pub goes_on : (qs : List ℕ) (o : Tried) → KeyTried classes class ps key qs o → o ≡ Goes → (r : ℕ)
          → NextHead (row_width Timetbls) t (i + 1) used r → Walking classes class used upto t slots (n + 1) r qs
      goes_on qs o tried g r y =
          let p : KeyTried classes class ps key qs Goes = subst (λ (x : Tried). KeyTried classes class ps key qs x) g tried in
          let ks = keys_among Timetbls used t in
          let e = there_is ks n key (services_from t used (suc i)) here in
          let z : i + 1 ≡ suc i = add-one i in
          rw (add-one n)
          (record {
            few = omega (arith, x.few);
            high = y.high;
            head = y.head;
            left = behind ks n key (services_from t used (suc i)) here ∙ rw z at (same_services used t room (i + 1) r y);
            clear = key_clear classes class ks n slots ps x.holds key e qs p x.clear;
            holds = key_held classes class ks n slots ps x.holds key e qs p;
          })
