-- Where no two rows name one key, a row that names it is the first that does. Assumes nothing.
use Rattle.std.specs.Prelude.{None, Option, Some}
use Prim.Native.Nat.{ℕ, zero, suc, ◌+◌, ◌/◌, ◌≤◌, ◌<◌}
use mathlib.Core.Path.{◌≡◌, refl, ap, sym, ◌∙◌}
use mathlib.Core.List.{List, [], ◌∷◌}
use mathlib.Core.Bool.{Bool, true, false, ◌&&◌, ◌||◌, not, cond, true≢false}
use native.Mathlib.Nat.{zero-add}
use native.Mathlib.Omega.{arith}
use borrow.Author.Tests.{eqb-true, eq-eqb, ltb-false}
use lib.Dec.{eqb, ltb}
use lib.ListN.{length, get_or}
use Rattle.iff.specs.Lists.{any, kept, has}
use Rattle.iff.specs.Tables.{Row, word, tag, row_width, row_at, rows_in, key_tag, key_word, keys_of, keyed, first_row}
use Rattle.iff.specs.declared.File.{File}
use Rattle.iff_laws.specs.TruthLaws.{both, says_any}
use Rattle.iff_desk.specs.Sound.{passes, followed_by, distinct}
use Rattle.tables.proofs.Rows.{row_is}
use Rattle.tables.proofs.Keys.{has_keys}
use Rattle.tables.proofs.First.{any_found}
use Rattle.std.specs.Option.{is_some}
use Rattle.keys.specs.Lookup.{at_most, keys_among, FoundRow}
use Rattle.keys.proofs.Among.{keys_counted}
use Rattle.store.specs.Found.{Stored}

-- "Unique", from those seen on
abbrev fresh : List ℕ → ℕ → Bool
fresh seen k = not (has k seen)

abbrev fresh_from : List ℕ → List ℕ → Bool
fresh_from seen ks = passes fresh followed_by seen ks

has_more : (k x : ℕ) (seen : List ℕ) → has k seen ≡ true → has k (followed_by seen x) ≡ true
unfolding any
has_more k x [] e = absurd (true≢false (sym e))
has_more k x (s ∷ seen) e = go (eqb k s) e (has_more k x seen)
  where
    go : (b : Bool) → (b || has k seen) ≡ true → (has k seen ≡ true → has k (followed_by seen x) ≡ true) → (b || has k (followed_by seen x)) ≡ true
    go true e ih = refl
    go false e ih = ih e

has_last : (k : ℕ) (seen : List ℕ) → has k (followed_by seen k) ≡ true
unfolding any
has_last k [] = rw (eq-eqb k k refl)
has_last k (s ∷ seen) = go (eqb k s) (has_last k seen)
  where
    go : (b : Bool) → has k (followed_by seen k) ≡ true → (b || has k (followed_by seen k)) ≡ true
    go true e = refl
    go false e = e

-- what was seen does not come again
not_again : (k : ℕ) (seen ks : List ℕ) → has k seen ≡ true → fresh_from seen ks ≡ true → has k ks ≡ false
unfolding passes any
not_again k seen [] h e = refl
not_again k seen (x ∷ ks) h e =
    let z = both (fresh seen x) (fresh_from (followed_by seen x) ks) e in
    go (eqb k x) refl z.0 (not_again k (followed_by seen x) ks (has_more k x seen h) z.1)
  where
    go : (b : Bool) → eqb k x ≡ b → fresh seen x ≡ true → has k ks ≡ false → (b || has k ks) ≡ false
    go true q f n =
        let y : has x seen ≡ true = rw (← eqb-true k x q) h in
        absurd (true≢false (sym (rw y at f)))
    go false q f n = n

module _ (f : File) (key : ℕ) where
  abbrev names : Row → Bool
  names r = keyed (key_tag f) (key_word f) key r

  -- the keys of one row more
  abbrev keys_with : Bool → Row → List Row → List ℕ
  keys_with true r rs = word r (key_word f) ∷ keys_of f rs
  keys_with false r rs = keys_of f rs

  keys_with_lem : (r : Row) (rs : List Row) → keys_of f (r ∷ rs) ≡ keys_with (eqb (tag r) (key_tag f)) r rs
  unfolding kept
  keys_with_lem r rs = go (eqb (tag r) (key_tag f)) refl
    where
      go : (b : Bool) → eqb (tag r) (key_tag f) ≡ b → keys_of f (r ∷ rs) ≡ keys_with b r rs
      go true q = rw q
      go false q = rw q

  first_in_lem : (seen : List ℕ) (rs : List Row) (k i : ℕ) → fresh_from seen (keys_of f rs) ≡ true → i < length rs → names (get_or rs i []) ≡ true
      → first_row names k rs ≡ Some (k + i)
  unfolding first_row passes
  first_in_lem seen [] k i e h n = absurd (omega arith)
  first_in_lem seen (r ∷ rs) k zero e h n =
      let z : k + 0 ≡ k = omega arith in
      rw (n, z)
  first_in_lem seen (r ∷ rs) k (suc i) e h n =
      go (eqb (tag r) (key_tag f)) (eqb (word r (key_word f)) key) refl (rw (keys_with_lem r rs) at e)
      (λ s y. first_in_lem s rs (suc k) i y (omega arith) n)
    where
      later : any names rs ≡ true
      later = (says_any [] names rs).1 (record { which = i; inside = omega arith; has_it = n })

      go : (a b : Bool) → eqb (word r (key_word f)) key ≡ b → fresh_from seen (keys_with a r rs) ≡ true
          → ((s : List ℕ) → fresh_from s (keys_of f rs) ≡ true → first_row names (suc k) rs ≡ Some (suc k + i))
          → cond (a && b) (Some k) (first_row names (suc k) rs) ≡ Some (k + suc i)
      go true true q e ih =
          let y = eqb-true (word r (key_word f)) key q in
          let z = both (fresh seen (word r (key_word f))) (fresh_from (followed_by seen (word r (key_word f))) (keys_of f rs)) e in
          let m = not_again (word r (key_word f)) (followed_by seen (word r (key_word f))) (keys_of f rs) (has_last (word r (key_word f)) seen) z.1 in
          absurd (true≢false (sym later ∙ sym (has_keys f key rs) ∙ rw y at m))
      go true false q e ih =
          let s : k + suc i ≡ suc k + i = omega arith in
          let z = both (fresh seen (word r (key_word f))) (fresh_from (followed_by seen (word r (key_word f))) (keys_of f rs)) e in
          rw s (ih (followed_by seen (word r (key_word f))) z.1)
      go false b q e ih =
          let s : k + suc i ≡ suc k + i = omega arith in
          rw s (ih seen e)

-- no more rows are gone through than are in use
pub no_more : (n most : ℕ) → at_most n most ≤ n
no_more n most = go (ltb n most) refl
  where
    go : (b : Bool) → ltb n most ≡ b → cond b n most ≤ n
    go true q = omega arith
    go false q = omega (arith, ltb-false n most q)

-- THE ROW OF A KEY in a table of a sound store
module _ (f : File) (used : ℕ) (t : List ℕ) (key : ℕ) (s : Stored f used t) where
  first_found : (i : ℕ) → i < length (rows_in f t) → keyed (key_tag f) (key_word f) key (row_at (row_width f) t i) ≡ true
      → Some i ≡ first_row (keyed (key_tag f) (key_word f) key) 0 (rows_in f t)
  unfolding distinct
  first_found i h n =
      sym (first_in_lem f key [] (rows_in f t) 0 i s.once h (rw (row_is (row_width f) (length t / row_width f) t i h) n) ∙ rw zero-add)

  none_found : has key (keys_among f used t) ≡ false → None ≡ first_row (keyed (key_tag f) (key_word f) key) 0 (rows_in f t)
  none_found e = go (first_row (keyed (key_tag f) (key_word f) key) 0 (rows_in f t)) refl
    where
      none : any (keyed (key_tag f) (key_word f) key) (rows_in f t) ≡ false
      none = sym (has_keys f key (rows_in f t)) ∙ rw (keys_counted f t used s.counted) at e

      go : (r : Option ℕ) → first_row (keyed (key_tag f) (key_word f) key) 0 (rows_in f t) ≡ r → None ≡ r
      go (Some i) q =
          absurd (true≢false (ap is_some (sym q) ∙ any_found (keyed (key_tag f) (key_word f) key) 0 (rows_in f t) ∙ none))
      go None q = refl

  -- what a lookup finds is the first row that names the key
  pub found_first : (r : Option ℕ) → FoundRow f used t key r → r ≡ first_row (keyed (key_tag f) (key_word f) key) 0 (rows_in f t)
  found_first (Some i) h =
      let k = h.found i refl in
      first_found i (omega (arith, k.inside, s.counted, no_more used (length t / row_width f))) k.names
  found_first None h = none_found (h.none refl)
